use Rattle.std.proofs.Common.{◌≡◌, length}
use Rattle.std.specs.List.{All}
use Rattle.test_parts.proofs.trial.zeros.Given as goal

abbrev pub invariant-objects : goal.invariant-objects
invariant-objects g l = (length l.counts.items ≡ l._object) × All (λ k. k ≡ 0) l.counts.items
