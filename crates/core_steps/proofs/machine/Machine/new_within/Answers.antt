use Rattle.std.proofs.Common.{◌≡◌, None, rules}
use Rattle.machine_model.specs.Setups.{fault_within}
use Rattle.core_steps.proofs.Reached.{new_reached}
use Rattle.machine_model.proofs.Setups.{few_calls, sound_long}
use Rattle.core_steps.proofs.machine.Machine.new_within.Goals as goal

pub new-requires-clause-sound : goal.new-requires-clause-sound
new-requires-clause-sound g c =
    let none : fault_within c.args.limit c.args.setup ≡ None = search rules in
    sound_long c.args.limit c.args.setup none

pub new-requires-clause-kept : goal.new-requires-clause-kept
new-requires-clause-kept g c =
    let none : fault_within c.args.limit c.args.setup ≡ None = search rules in
    few_calls c.args.limit g.L.Ledger.keeps c.args.setup none c.requires.fits

pub invariant_of-result : goal.invariant_of-result
invariant_of-result g c =
    let none : fault_within c.args.limit c.args.setup ≡ None = search rules in
    record { reached = new_reached _ c.args.limit c.args.setup _ none c.requires.new c.in-Ok.ensures }
