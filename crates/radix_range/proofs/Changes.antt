-- Slots with another owner, another frame, or a change of their range
use Rattle.slot_lock.proofs.Words.{◌≡◌, ℕ, ◌-◌, ◌^◌, ◌<◌, ◌≤◌, ⊎_elim, true, Option, refl, refl, sym, subst, arith, cases_lt, has, info_from, by_test, has_in}
use Rattle.slot_lock.specs.Slots.{Slots, IsSlot, between, with_owner}
use Rattle.slot_lock.proofs.Edits.{same_slots}
use Rattle.slot_lock.proofs.Steps.{slot_by_edge}
use Rattle.slot_lock.proofs.Facts.{two}
use Rattle.radix_node.specs.State.{State}
use Rattle.radix_node.specs.Run.{FitsWidth}
use Rattle.radix_node.specs.Node.{Parts}
use Rattle.radix_range.specs.Tree.{tree_slots, IsRadix}
use Rattle.radix_range.specs.Found.{IsSlotOf, restated}

-- ---- the slot that begins at a page

pub first_is : (s : Slots) (page first end : ℕ) (state : State) → IsSlotOf s page first end state → s.edge page ≡ true → first ≡ page
first_is s page first end state f edge = ⊎_elim
    (λ (l : first < page). absurd (two _ (f.slot.inside page l f.high) edge))
    (λ (l : page ≤ first). let low = f.low in omega arith)
    (cases_lt first page)

-- what is known of it
pub record Here (s : Slots) (page end : ℕ) (state : State) : Type 0 where
  pub slot : IsSlot s page end
  pub info : (p : ℕ) → page ≤ p → p < end → s.info p ≡ info_from state.info (p - page)
  pub owner : (p : ℕ) → page ≤ p → p < end → s.owner p ≡ state.owner
  pub sound : FitsWidth (end - page) state

pub here : (s : Slots) (page first end : ℕ) (state : State) → IsSlotOf s page first end state → s.edge page ≡ true → Here s page end state
here s page first end state f edge =
    let e = first_is s page first end state f edge in
    record {
      slot = subst (λ n. IsSlot s n end) e f.slot;
      info = subst (λ n. (p : ℕ) → n ≤ p → p < end → s.info p ≡ info_from state.info (p - n)) e f.info;
      owner = subst (λ n. (p : ℕ) → n ≤ p → p < end → s.owner p ≡ state.owner) e f.owner;
      sound = subst (λ n. FitsWidth (end - n) state) e f.sound;
    }

pub by_limit : (v : Parts) → IsRadix v → (page end : ℕ) → IsSlot (tree_slots v) page end → page < 2 ^ 35 → end ≤ 2 ^ 35
by_limit v ok page end slot h = slot_by_edge (tree_slots v) page end (2 ^ 35) slot (ok.laws _ refl).limit h

-- ---- another owner

pub restated_owner : (s : Slots) (page end : ℕ) (state : State) (owner : Option ℕ)
    → ((p : ℕ) → page ≤ p → p < end → s.info p ≡ info_from state.info (p - page))
    → restated s page end (record { info = state.info; owner = owner }) ≡ with_owner s page end owner
restated_owner s page end state owner info = same_slots _ _
    (λ p. by_test (λ x. x ≡ s.info p) (has (between page end) p) _ _
    (λ e. let b = has_in (between page end) p e in sym (info p b.0 b.1))
    (λ e. refl))
    (λ p. refl)
    (λ p. refl)
