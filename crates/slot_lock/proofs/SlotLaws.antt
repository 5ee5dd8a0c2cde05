-- What follows from the laws of a slot map
use Rattle.slot_lock.proofs.Words.{◌≡◌, ℕ, zero, suc, ◌+◌, ◌-◌, ◌^◌, ◌<◌, ◌≤◌, false, Some, refl, sym, ◌∙◌, ap, arith, ⊎_elim, PageRange, cases_lt, IsPage}
use Rattle.slot_lock.proofs.Words.{IsPageRange, info_from}
use Rattle.std.proofs.Common.{add-zero}
use Rattle.slot_lock.specs.Slots.{Slots, IsSlot, IsSlotMap, IsHeld}
use Rattle.slot_lock.proofs.ListLaws.{info_from_zero, info_from_twice}

-- pages among which no slot begins after the first have one owner
pub owner_on : (s : Slots) → IsSlotMap s → (a b n : ℕ) → 1 ≤ a → b ≤ 2 ^ 35 → ((p : ℕ) → a < p → p < b → s.edge p ≡ false) → a + n < b
    → s.owner (a + n) ≡ s.owner a
owner_on s laws a b zero l h inside m = rw add-zero refl
owner_on s laws a b (suc n) l h inside m =
    let same : a + suc n ≡ a + n + 1 = omega arith in
    rw same (laws.same_owner (a + n) (omega arith, omega arith) (inside (a + n + 1) (omega arith) (omega arith))
    ∙ owner_on s laws a b n l h inside (omega arith))

-- and their mapping goes on from the first's
pub info_on : (s : Slots) → IsSlotMap s → (a b n : ℕ) → 1 ≤ a → b ≤ 2 ^ 35 → ((p : ℕ) → a < p → p < b → s.edge p ≡ false) → a + n < b
    → s.info (a + n) ≡ info_from (s.info a) n
info_on s laws a b zero l h inside m = rw add-zero (sym (info_from_zero (s.info a)))
info_on s laws a b (suc n) l h inside m =
    let same : a + suc n ≡ a + n + 1 = omega arith in
    let more : n + 1 ≡ suc n = omega arith in
    rw same (laws.goes_on (a + n) (omega arith, omega arith) (inside (a + n + 1) (omega arith) (omega arith))
    ∙ (ap (λ o. info_from o 1) (info_on s laws a b n l h inside (omega arith))
    ∙ (info_from_twice (s.info a) n 1 ∙ ap (info_from (s.info a)) more)))

-- a page that a core holds is a page
pub held_page : (s : Slots) → IsSlotMap s → (p core : ℕ) → s.owner p ≡ Some core → IsPage p
held_page s laws p core own = (
  ⊎_elim (λ (l : p < 1). absurd (never (λ h. omega (arith, h.0)))) (λ l. l) (cases_lt p 1),
  ⊎_elim (λ l. l) (λ (l : 2 ^ 35 ≤ p). absurd (never (λ h. omega (arith, h.1)))) (cases_lt p (2 ^ 35)),
)
  where
    never : (¬ IsPage p) → ⊥
    never h = let none = laws.free p h in cc

pub slot-IsHeld : (s : Slots) → IsSlotMap s → (core : ℕ) (range : PageRange) → IsPageRange range → IsSlot s range.first range.end
    → s.owner range.first ≡ Some core → IsHeld s core range
slot-IsHeld s laws core range pages slot own = record {
  pages = pages;
  cut = record { begins = slot.begins; ends = slot.ends };
  held = λ p a b.
      let same : range.first + (p - range.first) ≡ p = omega arith in
      rw same at (owner_on s laws range.first range.end (p - range.first) pages.low pages.high slot.inside (omega arith)) ∙ own;
}
