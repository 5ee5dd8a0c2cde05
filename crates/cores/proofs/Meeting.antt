-- The pages that a range has of others
use Rattle.std.proofs.Common.{◌≡◌, ℕ, ◌<◌, ◌≤◌, ◌⊎◌, true, arith}
use Rattle.std.proofs.lemmas.Bool.Decides.{nat_tests}
use Rattle.vm_base.specs.declared.page.PageRange.{PageRange}
use Rattle.vm_base.specs.Functions.{has}
use Rattle.vm_base.proofs.Functions.{has_in, in_has}
use Rattle.cores.specs.Parts.{Has, IsMeet}

pub meets : (m r p : PageRange) → (r.first ≤ m.first) × (p.first ≤ m.first) × ((m.first ≡ r.first) ⊎ (m.first ≡ p.first))
    → (m.end ≤ r.end) × (m.end ≤ p.end) × ((m.end ≡ r.end) ⊎ (m.end ≡ p.end)) → IsMeet m r p
meets m r p f e = record {
  same = λ x in_p. same x (has_in p x in_p);
  within = λ x in_m. within x (has_in m x in_m);
}
  where
    within : (x : ℕ) → (m.first ≤ x) × (x < m.end) → has p x ≡ true
    within x here =
        let a = here.0 in
        let b = here.1 in
        let c = f.1 in
        let d = e.1 in
        in_has p x (omega (arith, a, c)) (omega (arith, b, d))

    same : (x : ℕ) → (p.first ≤ x) × (x < p.end) → has m x ≡ has r x
    same x here =
        let low = here.0 in
        let high = here.1 in
        let a = f.0 in
        let b = f.1 in
        let c = e.0 in
        let d = e.1 in
        grind (arith, nat_tests, low, high, a, b, c, d, f.2, e.2)

pub covers : (r p : PageRange) → r.first ≤ p.first → p.end ≤ r.end → Has r p
covers r p a b x in_p = let here = has_in p x in_p in let c = here.0 in let d = here.1 in in_has r x (omega (arith, a, c)) (omega (arith, b, d))
