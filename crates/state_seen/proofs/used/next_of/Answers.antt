use Rattle.core_steps.specs.Machine.{state}
use Rattle.state_seen.proofs.PageReading.{below_end, nothing_between, unused_within}
use Rattle.state_seen.proofs.used.next_of.Goals as goal

pub returns-then-not-is_valid-clause-between : goal.returns-then-not-is_valid-clause-between
returns-then-not-is_valid-clause-between g c = λ q above below. nothing_between c.args.page q _ above below

pub returns-clause-above : goal.returns-clause-above
returns-clause-above g c = below_end c.slot.result c.args.page c.slot.ensures.has

pub returns-clause-between : goal.returns-clause-between
returns-clause-between g c = λ q above below.
    unused_within (state c.args.machine.now).slots (g.met.M.SlotMap.is_slot_map c.args.machine.now.engine.map) c.slot.result c.slot.ensures.slot c.args.page q
    c.slot.ensures.has above below
