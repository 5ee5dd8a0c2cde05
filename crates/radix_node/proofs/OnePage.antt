-- A change of one page, as one of the range that has it alone
use Rattle.slot_lock.proofs.Words.{Box, ◌≡◌, ◌≢◌, ℕ, ◌+◌, ◌-◌, ◌*◌, ◌<◌, ◌≤◌, ◌⊎◌, inl, inr, ⊎_elim, List, get_or, sym, ap, ◌∙◌, subst, arith, cases_lt}
use Rattle.std.proofs.Math.ListN.{set}
use Rattle.radix_node.specs.declared.edit.Edit.{Edit}
use Rattle.radix_node.specs.declared.node.Node.{Node}
use Rattle.radix_node.specs.declared.node.Slot.{Slot}
use Rattle.radix_node.specs.declared.node.Slot.TheVariants.{Own as OwnSlot, Child}
use Rattle.radix_node.specs.declared.state.SlotState.{SlotState}
use Rattle.radix_node.specs.State.{state_of}
use Rattle.radix_node.specs.Run.{Run, cell_at, width_of, IsWhole}
use Rattle.radix_node.specs.Node.{Parts, runs, flatten}
use Rattle.radix_node.specs.Slots.{parts_of, IsNode}
use Rattle.radix_node.specs.Edit.{CanEdit, edited, edited_cell}
use Rattle.radix_node.proofs.Flat.{IsPlace}
use Rattle.radix_node.proofs.Edits.{InSlot, Narrow, Uncrossed, own_narrow, child_narrow, child_uncrossed}

-- the page was changed, and no other
pub record EditsOne (old new : List Run) (page : ℕ) (edit : Edit) : Type 0 where
  pub here : cell_at new page ≡ edited_cell edit 0 (cell_at old page)
  pub others : (p : ℕ) → p ≢ page → cell_at new p ≡ cell_at old p

pub page_in : {level page i rest : ℕ} → IsPlace level page i rest → InSlot level page (page + 1) i rest
page_in at = record { place = at; some = omega arith; short = omega (arith, at.rest_in) }

apart : (p page : ℕ) → p ≢ page → (p < page) ⊎ (page + 1 ≤ p)
apart p page not = ⊎_elim (λ (l : p < page). inl l)
    (λ (l : page ≤ p). ⊎_elim (λ (m : p < page + 1). (let e : p ≡ page = omega arith in absurd (not e))) (λ (m : page + 1 ≤ p). inr m) (cases_lt p (page + 1)))
    (cases_lt p page)

-- what a slot that was written says of the page
pub narrow_one : {A : Type 0} {level page : ℕ} {ss ts : List (Slot A)} (edit : Edit) → Narrow level ss ts page (page + 1) 0 edit
    → EditsOne (flatten (width_of level) (parts_of ss)) (flatten (width_of level) (parts_of ts)) page edit
narrow_one {level = level} {page = page} {ss = ss} edit h =
    let none : 0 + (page - page) ≡ 0 = omega arith in
    record {
      here = h.edits.inside page (omega arith) (omega arith) (omega (arith, h.by_end))
          ∙ ap (λ n. edited_cell edit n (cell_at (flatten (width_of level) (parts_of ss)) page)) none;
      others = λ p not. h.edits.outside p (apart p page not);
    }

pub own_one : {A : Type 0} {level page i rest : ℕ} {ss : List (Slot A)} (d : Slot A) (s t : SlotState) (edit : Edit)
    → IsNode level ss → IsPlace level page i rest → OwnSlot s ≡ get_or ss i d
    → (cell_at (flatten (width_of level) (parts_of ss)) page).offset ≡ 0
    → (cell_at (flatten (width_of level) (parts_of ss)) (page + 1)).offset ≡ 0
    → CanEdit edit 1 → state_of t ≡ edited edit 0 (state_of s)
    → Narrow level ss (set ss i (OwnSlot t)) page (page + 1) 0 edit
own_one {page = page} d s t edit n at is begins ends can is_t =
    let one : 1 ≡ 0 + (page + 1 - page) = omega arith in
    own_narrow d s t 0 edit n (page_in at) is begins ends (subst (CanEdit edit) one can) is_t

pub child_one : {A : Type 0} {level page i rest : ℕ} {ss : List (Slot A)} (d : Slot A) (b c : Box (Node A) A) (v : Parts) (edit : Edit)
    → IsNode level ss → IsPlace level page i rest → Child b ≡ get_or ss i d → v ≡ b.value
    → c.value.level ≡ v.level → IsWhole c.value.level (512 * width_of c.value.level) (runs c.value)
    → EditsOne (runs v) (runs c.value) rest edit
    → Narrow level ss (set ss i (Child c)) page (page + 1) 0 edit
child_one {page = page} {rest = rest} d b c v edit n at is same lev whole h =
    child_narrow d b c v 0 edit n (page_in at) is same lev whole
    (λ q low high.
    let e : q ≡ rest = omega arith in
    let none : 0 ≡ 0 + (q - rest) = omega arith in
    ap (cell_at (runs c.value)) e ∙ h.here ∙ ap (λ n. edited_cell edit n (cell_at (runs v) rest)) none
    ∙ ap (λ p. edited_cell edit (0 + (q - rest)) (cell_at (runs v) p)) (sym e))
    (λ q o. h.others q (λ e. ⊎_elim (λ (x : q < rest). omega arith) (λ (x : rest + (page + 1 - page) ≤ q). omega arith) o))

-- a child's page is a slot of its own
pub child_alone : {A : Type 0} {level page i rest : ℕ} {ss : List (Slot A)} (d : Slot A) (b : Box (Node A) A) (v : Parts)
    → IsNode level ss → IsPlace level page i rest → Child b ≡ get_or ss i d → v ≡ b.value
    → (cell_at (flatten (width_of level) (parts_of ss)) page).offset ≡ 0
    → (cell_at (flatten (width_of level) (parts_of ss)) (page + 1)).offset ≡ 0
    → Uncrossed (runs v) rest (rest + 1)
child_alone {page = page} {rest = rest} d b v n at is same begins ends =
    let one : rest + (page + 1 - page) ≡ rest + 1 = omega arith in
    subst (Uncrossed (runs v) rest) one (child_uncrossed d b v n (page_in at) is same begins ends)
