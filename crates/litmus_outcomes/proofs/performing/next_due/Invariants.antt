use Rattle.std.proofs.Common.{◌≡◌, ℕ, ◌<◌, Some, slice_get}
use Rattle.litmus_outcomes.specs.declared.performing.Due.{Due}
use Rattle.litmus_outcomes.specs.declared.performing.Stage.TheVariants.{Over}
use Rattle.litmus_outcomes.proofs.performing.next_due.Given as goal

-- those of the core so far are over
abbrev pub invariant-dues : goal.invariant-dues
invariant-dues l = (j : ℕ) (other : Due) → j < l.k → slice_get l.dues j ≡ Some other → other.core ≡ l.core → other.stage ≡ Over
