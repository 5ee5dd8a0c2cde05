use Rattle.std.proofs.Common.{refl}
use Rattle.vm_calls.specs.Decisions.DecidesRun.{taken}
use Rattle.vm_calls.proofs.Rooms.{taken-range}
use Rattle.vm_calls.proofs.decision.decide_run.Goals as goal

pub returns-in-None : goal.returns-in-None
returns-in-None g c =
    taken (taken-range (g.M.SlotRead.slots c.args.map.now) c.args.range c.requires.range.some c.in-None.ensures.none) refl
