use Rattle.std.proofs.Common.{◌≡◌, ◌<◌, Some, ℕ}
use Rattle.machine_model.specs.Holding.{awaits_in}
use Rattle.core_steps.specs.State.{world}
use Rattle.driven.proofs.driving.sender.Given as goal

-- no core so far awaits it
abbrev pub invariant-cores : goal.invariant-cores
invariant-cores g l =
    (d : ℕ) → d < l.index → awaits_in ((world g.M.SlotRead.slots l.machine.engine).calls.phase d) ≡ Some l.range → ⊥
