use Rattle.machine_model.proofs.Words.{◌≡◌, rules}
use Rattle.std.specs.Prelude.{◌≢◌}
use Rattle.machine_model.specs.declared.event.Outcome.TheVariants.{Stepped}
use Rattle.core_steps.specs.State.{world}
use Rattle.driven.proofs.Tellings.{begun, not_begun}
use Rattle.driven.proofs.telling.call_telling.Goals as goal

pub returns-then-ne-clause-calls : goal.returns-then-ne-clause-calls
returns-then-ne-clause-calls g c =
    let other : c.in-Ok.outcome ≢ Stepped = search rules in
    not_begun (world g.M.SlotRead.slots c.args.machine.now.engine) (world g.M.SlotRead.slots c.step.new.self.engine) c.args.core c.args.request
    c.in-Ok.outcome c.args.told.now g.L.Ledger.keeps other c.requires.nothing c.in-Ok.ensures.step

pub returns-clause-calls : goal.returns-clause-calls
returns-clause-calls g c =
    let plain : c.in-Ok.outcome ≡ Stepped = search rules in
    begun (world g.M.SlotRead.slots c.args.machine.now.engine) (world g.M.SlotRead.slots c.step.new.self.engine)
    (world g.M.SlotRead.slots c.go_telling.new.machine.engine) c.args.core c.args.request c.in-Ok.outcome c.go_telling.new.told c.go_telling.result
    g.L.Ledger.keeps plain c.in-Ok.ensures.step c.go_telling.ensures.goes
