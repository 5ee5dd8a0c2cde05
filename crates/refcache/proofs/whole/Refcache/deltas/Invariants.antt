use Rattle.std.proofs.Common.{◌≡◌, ◌≤◌, ◌*◌, ◌^◌, pos, neg_ℤ, ◌≤ℤ◌}
use Rattle.refcache.specs.Counts.{delta_of}
use Rattle.refcache.specs.Parts.{counts_of}
use Rattle.refcache.specs.Sums.{sum_below}
use Rattle.refcache.proofs.whole.Refcache.deltas.Given as goal

abbrev pub invariant-cores : goal.invariant-cores
invariant-cores g l = (l.deltas ≡ sum_below l.core (λ c. delta_of (counts_of l.self) c l.object))
    × (neg_ℤ (pos (l.core * 2 ^ 40)) ≤ℤ l.deltas) × (l.deltas ≤ℤ pos (l.core * 2 ^ 40)) × (l.core-end ≤ 64)
