-- Cores that made their takes, one after another
use Rattle.std.proofs.Common.{◌≡◌, ℕ, ◌+◌, ◌<◌, ◌≤◌, ◌⊎◌, ◌==◌, ◌∙◌, inl, inr, ap, arith, Bool, true, false, refl, subst, sym}
use Rattle.std.proofs.lemmas.Bool.{cases_lt}
use Rattle.std.specs.Prelude.{cond}
use Rattle.vm_base.specs.Cores.{members}
use Rattle.vm_base.specs.Functions.{put}
use Rattle.vm_base.proofs.Functions.{put_same}
use Rattle.live_pages.specs.Acking.{AcksIn}
use Rattle.live_pages.specs.declared.telling.Acked.{Acked}

pub one_more : (set target : ℕ) (a b : Acked) → ((d : ℕ) → d < target → members set d ≡ true → members a.set d ≡ true) → AcksIn set target a b
    → (d : ℕ) → d < target + 1 → members set d ≡ true → members b.set d ≡ true
one_more set target a b each acks d lt m = by (cases_lt d target)
  where
    by : (d < target) ⊎ (target ≤ d) → members b.set d ≡ true
    by (inl less) = acks.kept d (each d less m)
    by (inr ge) =
        let e : target ≡ d = omega arith in
        subst (λ (k : ℕ). members b.set k ≡ true) e (acks.told (subst (λ (k : ℕ). members set k ≡ true) (sym e) m))

lifted : (x y : Bool) → y ≡ true → cond x true y ≡ true
lifted true y e = refl
lifted false y e = e

pub one_acks : (set target core : ℕ) (a b : Acked) → core ≡ target → members b.set ≡ put (members a.set) core true → b.range ≡ a.range
    → AcksIn set target a b
one_acks set target core a b is sets range = record {
  kept = λ d m. ap (λ (f : ℕ → Bool). f d) sets ∙ lifted (d == core) (members a.set d) m;
  told = λ m. subst (λ (k : ℕ). members b.set k ≡ true) is (ap (λ (f : ℕ → Bool). f core) sets ∙ put_same (members a.set) core true);
  range = range;
}
