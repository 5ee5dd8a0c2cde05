use Rattle.std.proofs.Common.{◌≡◌, ℕ, [], drop}
use Rattle.litmus_outcomes.specs.Dues.{dues_said}
use Rattle.litmus_outcomes.proofs.performing.are_over.Given as goal

-- those so far say nothing
abbrev pub invariant-dues : goal.invariant-dues
invariant-dues l = (c : ℕ) → dues_said c (drop l.k l.dues) ≡ [] → dues_said c l.dues ≡ []
