-- Divisions add slots, of which there are no more than pages
use Rattle.slot_lock.proofs.Words.{◌≡◌, ℕ, zero, suc, ◌<◌, ◌≤◌, ⊎_elim, Bool, true, false, Option, refl, ◌∙◌, ap, arith, cases_lt}
use Rattle.std.proofs.Common.{if◌then◌else◌}
use Rattle.slot_lock.specs.Slots.{Slots, Divides}
use Rattle.slot_lock.specs.Edges.{edges_below}
use Rattle.slot_lock.proofs.Facts.{two}

one_more : (b c : Bool) → (b ≡ true → c ≡ true) → (if b then 1 else 0) ≤ (if c then 1 else 0)
one_more true true h = omega arith
one_more true false h = absurd (two _ refl (h refl))
one_more false c h = omega arith

edges_below-kept : (s t : Slots) → ((p : ℕ) → s.edge p ≡ true → t.edge p ≡ true) → (n : ℕ) → edges_below s n ≤ edges_below t n
unfolding edges_below
edges_below-kept s t h zero = omega arith
edges_below-kept s t h (suc n) =
    let one = one_more (s.edge n) (t.edge n) (h n) in
    let rest = edges_below-kept s t h n in
    omega arith

pub edges_below-Divides : (s t : Slots) (owner : Option ℕ) (at n : ℕ) → Divides s t owner at → at < n → edges_below s n < edges_below t n
unfolding edges_below
edges_below-Divides s t owner at zero h l = absurd (omega arith)
edges_below-Divides s t owner at (suc n) h l = ⊎_elim
    (λ (m : at < n).
    let one = one_more (s.edge n) (t.edge n) (h.kept n) in
    let rest = edges_below-Divides s t owner at n h m in
    omega arith)
    (λ (m : n ≤ at).
    let same : n ≡ at = omega arith in
    let was : s.edge n ≡ false = ap s.edge same ∙ h.was_inside in
    let is : t.edge n ≡ true = ap t.edge same ∙ h.begins in
    let rest = edges_below-kept s t h.kept n in
    rw (was, is) (omega arith))
    (cases_lt at n)

pub edges_below-most : (s : Slots) (n : ℕ) → edges_below s n ≤ n
unfolding edges_below
edges_below-most s zero = omega arith
edges_below-most s (suc n) =
    let one = one_more (s.edge n) true (λ _. refl) in
    let rest = edges_below-most s n in
    omega arith
