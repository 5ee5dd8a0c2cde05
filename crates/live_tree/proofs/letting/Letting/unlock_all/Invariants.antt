use Rattle.std.proofs.Common.{◌≡◌, ◌+◌, ℕ, length}
use Rattle.live_tree.specs.Letting.{StepsOften}
use Rattle.live_tree.proofs.letting.Letting.unlock_all.Given as goal

abbrev pub invariant-slots : goal.invariant-slots
invariant-slots g l = (n : ℕ) × (n + length l.self.slots ≡ l.count) × StepsOften g.S.Stepper.stepped n l.fn.stepper l.stepper

abbrev pub decreases-slots : goal.decreases-slots
decreases-slots g l = length l.self.slots
