use Rattle.std.proofs.Common.{ℕ, ◌<◌}
use Rattle.core_steps.specs.State.{world}
use Rattle.driven.specs.Reclaiming.{IsBack}
use Rattle.driven.proofs.reclaiming.are_back.Given as goal

-- the frames so far are
abbrev pub invariant-frames : goal.invariant-frames
invariant-frames g l = (f : ℕ) → f < l.frame → IsBack (world g.M.SlotRead.slots l.machine.engine) f
