-- What is read of the counts
use Rattle.std.proofs.Common.{ℕ, suc, ◌≡◌, ◌+◌, ℤ, pos, ◌+ℤ◌, refl, sym, subst, ap, arith}
use Rattle.refcache.specs.Counts.{delta_of}
use Rattle.refcache.specs.Parts.{Parts, counts_of}
use Rattle.refcache.specs.Pieces.{IsCount}
use Rattle.refcache.specs.Sound.{IsSound}
use Rattle.refcache.specs.Steps.{IsDelta}
use Rattle.refcache.specs.Sums.{sum_below}
use Rattle.refcache.proofs.Sound.{known}
use Rattle.refcache.proofs.Held.{global_small}

-- each core's delta is little
pub little : (p q : Parts) (c o : ℕ) (d : ℤ) → IsSound p → p ≡ q → d ≡ delta_of (counts_of q) c o → IsDelta d
little p q c o d f same e =
    subst IsDelta (sym e) (subst (λ r. IsDelta (delta_of (counts_of r) c o)) same (((known (counts_of p) f.reached).held.rows c).small o))

-- and so is each global count
pub little_global : (p q : Parts) (o : ℕ) (d : ℤ) → IsSound p → p ≡ q → d ≡ (counts_of q).global o → IsCount d
little_global p q o d f same e =
    let k = known (counts_of p) f.reached in
    subst IsCount (sym e) (subst (λ r. IsCount ((counts_of r).global o)) same (global_small (counts_of p) o f.few k.held k.counted))

pub sum_none : (f : ℕ → ℤ) → pos 0 ≡ sum_below 0 f
unfolding sum_below
sum_none f = refl

pub sum_more : (n : ℕ) (f : ℕ → ℤ) → sum_below (n + 1) f ≡ f n +ℤ sum_below n f
unfolding sum_below
sum_more n f =
    let e : n + 1 ≡ suc n = omega arith in
    ap (λ k. sum_below k f) e
