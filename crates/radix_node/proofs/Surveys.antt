-- What the slots of a range of a node have together, slot by slot
use Rattle.slot_lock.proofs.Words.{Box, ◌≡◌, ℕ, ◌+◌, ◌-◌, ◌*◌, ◌<◌, ◌≤◌, ◌==◌, ◌||◌, ⊎_elim, Bool, true, false, List, get_or, min, max, sym, ap, ◌∙◌}
use Rattle.slot_lock.proofs.Words.{arith, cases_lt, nat_tests, info_from, members, refl}
use Rattle.std.proofs.Common.{nat_le}
use Rattle.slot_lock.specs.declared.survey.Survey.{Survey}
use Rattle.slot_lock.specs.Slots.{between}
use Rattle.slot_lock.specs.Surveys.{IsSurvey}
use Rattle.slot_lock.proofs.Surveys.{one_if, survey_both, survey_moved, survey_one}
use Rattle.radix_node.specs.declared.node.Node.{Node}
use Rattle.radix_node.specs.declared.node.Slot.{Slot}
use Rattle.radix_node.specs.declared.node.Slot.TheVariants.{Own as OwnSlot, Child}
use Rattle.radix_node.specs.declared.state.SlotState.{SlotState}
use Rattle.radix_node.specs.State.{state_of}
use Rattle.radix_node.specs.Run.{Run, Cell, cell_at, width_of}
use Rattle.radix_node.specs.Node.{Parts, runs, flatten}
use Rattle.radix_node.specs.Slots.{parts_of, IsNode}
use Rattle.radix_node.specs.Survey.{IsSlotSurvey, slots_in}
use Rattle.radix_node.proofs.Flat.{width_pos}
use Rattle.radix_node.proofs.Walks.{IsPart, child_cell, own_page, reach}

-- a slot that is no child
pub survey_own : {A : Type 0} {level i : ℕ} {ss : List (Slot A)} (d : Slot A) (s : SlotState) (first end : ℕ) (begins : Bool) (found : Survey)
    → IsNode level ss → i < 512 → OwnSlot s ≡ get_or ss i d → first < end → first < i * width_of level + width_of level → i * width_of level < end
    → begins ≡ nat_le first (i * width_of level) → IsSlotSurvey (state_of s) begins found
    → IsSurvey (slots_in (flatten (width_of level) (parts_of ss))) (between (max first (i * width_of level)) (min end (i * width_of level + width_of level))) found
survey_own {level = level} {i = i} {ss = ss} d s first end begins found n l is some past below starts h =
    let start = i * width_of level in
    let pos = width_pos level in
    survey_one (slots_in (flatten (width_of level) (parts_of ss))) (max first start) (min end (start + width_of level)) (state_of s).info found
    (omega arith)
    (λ p a b. let c = at p (omega (arith, a)) (omega (arith, b)) in (
      ap (λ (c : Cell). c.state.owner) c ∙ h.free,
      (p - start, ap (λ (c : Cell). info_from c.state.info c.offset) c),
    ))
    (λ p a b. ap (λ (c : Cell). c.offset == 0) (at p (omega (arith, a)) (omega (arith, b))) ∙ later (p - start) (omega (arith, a)))
    (h.slots ∙ ap one_if (starts ∙ same_start first start ∙ sym (ap (λ (c : Cell). c.offset == 0) (at (max first start) (omega arith) (omega arith)))))
    (λ core. ap (λ f. f core) h.cores) h.gap h.framed h.shared
  where
    at : (p : ℕ) → i * width_of level ≤ p → p < i * width_of level + width_of level
        → cell_at (flatten (width_of level) (parts_of ss)) p
        ≡ record { state = state_of s; offset = p - i * width_of level; width = width_of level }
    at p a b = own_page d s n l is p (record { low = a; high = b })

    later : (m : ℕ) → 0 < m → (m == 0) ≡ false
    later m h = grind (arith, nat_tests)

    same_start : (a b : ℕ) → nat_le a b ≡ (max a b - b == 0)
    same_start a b = ⊎_elim
        (λ (x : b < a). let m : max a b - b ≡ a - b = omega arith in grind (arith, nat_tests, x, m))
        (λ (x : a ≤ b). let m : max a b - b ≡ 0 = omega arith in grind (arith, nat_tests, x, m))
        (cases_lt b a)

-- a page of a node whose slots have one page each
pub survey_page : {A : Type 0} {level k : ℕ} {ss : List (Slot A)} (d : Slot A) (s : SlotState) (found : Survey) → level ≡ 0 → IsNode level ss → k < 512
    → OwnSlot s ≡ get_or ss k d → IsSlotSurvey (state_of s) true found
    → IsSurvey (slots_in (flatten (width_of level) (parts_of ss))) (between k (k + 1)) found
survey_page {level = level} {k = k} {ss = ss} d s found zero_level n l is h =
    let one : width_of level ≡ 1 = rw zero_level refl in
    let place : k * width_of level ≡ k = ap (λ n. k * n) one ∙ omega arith in
    let low : max k (k * width_of level) ≡ k = omega (arith, place) in
    let high : min (k + 1) (k * width_of level + width_of level) ≡ k + 1 = omega (arith, place, one) in
    let begins : nat_le k k ≡ true = grind (arith, nat_tests) in
    let whole = survey_own d s k (k + 1) true found n l is (omega arith) (omega (arith, place, one)) (omega (arith, place))
    (sym (ap (nat_le k) place ∙ begins)) h in
    rw (low, high) at whole

-- the pages of a range before the k-th have this
pub record PagesSurveyed (rs : List Run) (first end k : ℕ) (found : Survey) : Type 0 where
  pub low : first ≤ k
  pub high : k ≤ end
  pub slots : found.slots ≡ k - first
  pub survey : IsSurvey (slots_in rs) (between first k) found

-- and so does the k-th too
pub page_surveyed : {A : Type 0} {level k : ℕ} {ss : List (Slot A)} (d : Slot A) (s : SlotState) (first end : ℕ) (found one next : Survey) → level ≡ 0
    → IsNode level ss → k < end → end ≤ 512 → OwnSlot s ≡ get_or ss k d → IsSlotSurvey (state_of s) true one
    → next.slots ≡ k + 1 - first → ((core : ℕ) → members next.cores core ≡ (members found.cores core || members one.cores core))
    → next.gap ≡ (found.gap || one.gap) → next.framed ≡ (found.framed || one.framed) → next.shared ≡ (found.shared || one.shared)
    → PagesSurveyed (flatten (width_of level) (parts_of ss)) first end k found
    → PagesSurveyed (flatten (width_of level) (parts_of ss)) first end (k + 1) next
page_surveyed {level = level} {k = k} {ss = ss} d s first end found one next zero_level n below within is page slots cores gap framed shared h = record {
  low = omega (arith, h.low);
  high = omega (arith, below);
  slots = slots;
  survey =
      survey_both (slots_in (flatten (width_of level) (parts_of ss))) first k (k + 1) found one next h.low (omega arith)
      (omega (arith, slots, page.slots, h.slots, h.low)) cores gap framed shared h.survey
      (survey_page d s one zero_level n (omega (arith, below, within)) is page);
}

-- a child's slots
pub survey_child : {A : Type 0} {level i : ℕ} {ss : List (Slot A)} (d : Slot A) (b : Box (Node A) A) (v : Parts) (first end lo hi : ℕ) (found : Survey)
    → IsNode level ss → i < 512 → Child b ≡ get_or ss i d → v ≡ b.value
    → IsPart first end (i * width_of level) (width_of level) lo hi → lo < hi → IsSurvey (slots_in (runs v)) (between lo hi) found
    → IsSurvey (slots_in (flatten (width_of level) (parts_of ss))) (between (i * width_of level + lo) (i * width_of level + hi)) found
survey_child {level = level} {i = i} {ss = ss} d b v first end lo hi found n l is same part some h =
    survey_moved (slots_in (flatten (width_of level) (parts_of ss))) (slots_in (runs v)) (i * width_of level) lo hi found (omega arith)
    (λ q x y. let c = child_cell {q = q} d b v n l is same part y in (
      ap (λ (c : Cell). info_from c.state.info c.offset) c,
      ap (λ (c : Cell). c.state.owner) c,
      ap (λ (c : Cell). c.offset == 0) c,
    )) h

-- at most one slot begins with a slot's pages
pub one_most : (n : ℕ) (b : Bool) → n ≡ one_if b → n ≤ 1
one_most n true e = omega (arith, e)
one_most n false e = omega (arith, e)

-- ---- how far a walk has come

pub reach_within : (first end start : ℕ) → first < end → reach first end start ≤ end
reach_within first end start some = omega arith

pub reach_from : (first end start : ℕ) → first < end → start ≤ first → reach first end start ≡ first
reach_from first end start some low = omega arith

pub reach_at : (first end start : ℕ) → first < end → start < end → reach first end start ≡ max first start
reach_at first end start some low = omega arith

pub reach_next : (first end start width next : ℕ) → first < start + width → next ≡ start + width → reach first end next ≡ min end (start + width)
reach_next first end start width next past e = omega arith

pub reach_end : (first end start : ℕ) → first < end → end ≤ start → reach first end start ≡ end
reach_end first end start some done = omega arith
