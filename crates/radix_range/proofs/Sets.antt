-- A slot in another state
use Rattle.slot_lock.proofs.Words.{◌≡◌, ℕ, ◌+◌, ◌-◌, ◌^◌, ◌<◌, ◌≤◌, ◌==◌, ◌⊎◌, inl, inr, ⊎_elim, Bool, true, false, [], List, refl, sym, ◌∙◌, ap, subst}
use Rattle.slot_lock.proofs.Words.{arith, has, info_from, by_test, has_in, eq_true}
use Rattle.slot_lock.specs.Slots.{IsSlot, between}
use Rattle.slot_lock.proofs.Edits.{has_not, same_slots}
use Rattle.slot_lock.proofs.Steps.{slot_by_edge}
use Rattle.radix_node.specs.State.{State}
use Rattle.radix_node.specs.Run.{Run, Cell, total, cell_at, with_run, in_state}
use Rattle.radix_node.specs.Node.{Parts, runs}
use Rattle.radix_node.proofs.Runs.{cell_at-here}
use Rattle.radix_range.specs.Tree.{run_slots, tree_slots, IsRadix}
use Rattle.radix_range.specs.Found.{restated}
use Rattle.radix_range.proofs.Cells.{cell_in, slot_start, changed_inside, changed_outside}
use Rattle.radix_range.proofs.TreeLaws.{pages_are, is_slot, cell_of}

-- the slot of a page that begins it
pub record Begins (rs : List Run) (page end : ℕ) : Type 0 where
  pub start : slot_start rs page ≡ page
  pub width : (cell_at rs page).width ≡ end - page
  pub some : page < end

pub begins : (rs : List Run) (page end : ℕ) → IsSlot (run_slots rs) page end → Begins rs page end
begins rs page end slot =
    let zero = eq_true _ _ slot.begins in
    let start : slot_start rs page ≡ page = omega arith in
    let c = cell_in rs page in
    let own = is_slot rs page in
    let a = slot_by_edge (run_slots rs) page end (slot_start rs page + (cell_at rs page).width) slot own.ends (omega (arith, c.high)) in
    let b = slot_by_edge (run_slots rs) (slot_start rs page) (slot_start rs page + (cell_at rs page).width) end own slot.ends
    (let o = slot.ordered in omega arith) in
    record { start = start; width = omega arith; some = slot.ordered }

-- the slots of a list whose slot was written
pub record IsSet (rs qs : List Run) (page end : ℕ) (t : State) : Type 0 where
  pub inside : (p : ℕ) → page ≤ p → p < end → cell_at qs p ≡ record { state = t; offset = p - page; width = end - page }
  pub was : (p : ℕ) → page ≤ p → p < end → (cell_at rs p).offset ≡ p - page
  pub outside : (p : ℕ) → (p < page) ⊎ (end ≤ p) → cell_at qs p ≡ cell_at rs p

pub is_set : (rs : List Run) (page end : ℕ) (t : State) → page < total rs → IsSlot (run_slots rs) page end → IsSet rs (with_run (in_state t) rs page) page end t
is_set rs page end t h slot =
    let b = begins rs page end slot in
    let w = b.width in
    let start = b.start in
    let sum : (cell_at rs page).width + 0 ≡ (cell_at rs page).width = omega arith in
    record {
      inside = λ p a l.
          let n : slot_start rs page + (p - page) ≡ p = omega arith in
          ap (cell_at (with_run (in_state t) rs page)) (sym n) ∙ changed_inside (in_state t) rs page (p - page) h sum (omega arith)
          ∙ cell_at-here (record { width = (cell_at rs page).width; state = t }) [] (p - page) (omega arith)
          ∙ ap (λ k. record { state = t; offset = p - page; width = k }) w;
      was = λ p a l. ap (λ (c : Cell). c.offset) (cell_of rs page p (omega arith) (omega arith)) ∙ ap (λ k. p - k) start;
      outside = λ p o. changed_outside (in_state t) rs page p h sum
          (⊎_elim (λ (l : p < page). inl (omega arith)) (λ (l : end ≤ p). let some = b.some in inr (omega arith)) o);
    }

pub set_slots : (rs qs : List Run) (page end : ℕ) (t : State) → IsSet rs qs page end t → run_slots qs ≡ restated (run_slots rs) page end t
set_slots rs qs page end t h = same_slots _ _
    (λ p. by_test (λ x. (run_slots qs).info p ≡ x) (has (between page end) p) _ _
    (λ e. let b = has_in (between page end) p e in ap (λ (c : Cell). info_from c.state.info c.offset) (h.inside p b.0 b.1))
    (λ e. ap (λ (c : Cell). info_from c.state.info c.offset) (h.outside p (has_not (between page end) p e))))
    (λ p. by_test (λ x. (run_slots qs).owner p ≡ x) (has (between page end) p) _ _
    (λ e. let b = has_in (between page end) p e in ap (λ (c : Cell). c.state.owner) (h.inside p b.0 b.1))
    (λ e. ap (λ (c : Cell). c.state.owner) (h.outside p (has_not (between page end) p e))))
    (λ p. edge p (has (between page end) p) refl)
  where
    edge : (p : ℕ) (b : Bool) → has (between page end) p ≡ b → (run_slots qs).edge p ≡ (run_slots rs).edge p
    edge p true e = let b = has_in (between page end) p e in ap (λ n. n == 0) (ap (λ (c : Cell). c.offset) (h.inside p b.0 b.1) ∙ sym (h.was p b.0 b.1))
    edge p false e = ap (λ (c : Cell). c.offset == 0) (h.outside p (has_not (between page end) p e))

pub tree_set : (v u : Parts) → IsRadix v → (page end : ℕ) (t : State) → end ≤ 2 ^ 35 → IsSlot (tree_slots v) page end
    → runs u ≡ with_run (in_state t) (runs v) page → IsSet (runs v) (runs u) page end t
tree_set v u ok page end t high slot e =
    let n = pages_are v ok.top in
    let o = slot.ordered in
    subst (λ qs. IsSet (runs v) qs page end t) (sym e) (is_set (runs v) page end t (omega (arith, ok.whole.pages_are)) slot)
