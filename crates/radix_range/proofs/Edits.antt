-- A change of the pages of a range
use Rattle.slot_lock.proofs.Words.{◌≡◌, ◌≢◌, ℕ, ◌+◌, ◌-◌, ◌<◌, ◌≤◌, ◌==◌, ◌⊎◌, ⊎_elim, Bool, true, false, cond, Option, List, refl, sym, ◌∙◌, ap, arith}
use Rattle.slot_lock.proofs.Words.{cases_lt, PageRange, PageInfo, has, info_from, by_test, has_in, eq_true}
use Rattle.slot_lock.specs.Slots.{Slots, between, with_info}
use Rattle.slot_lock.proofs.ListLaws.{info_from_twice}
use Rattle.slot_lock.proofs.Edits.{has_not, has_one, same_slots}
use Rattle.slot_lock.proofs.Changes.{prot_from}
use Rattle.radix_node.specs.declared.edit.Edit.{Edit}
use Rattle.radix_node.specs.declared.edit.Edit.TheVariants.{Put, Protect}
use Rattle.radix_node.specs.Edit.{edited_info, edited_cell}
use Rattle.radix_node.specs.Run.{Run, Cell, cell_at}
use Rattle.radix_node.specs.Node.{Parts, runs}
use Rattle.radix_range.specs.Tree.{run_slots, tree_slots}
use Rattle.radix_range.specs.Found.{edited_to}
use Rattle.radix_range.proofs.Cells.{cell_earlier}

-- the cells of a list whose range was changed
pub record IsEdited (rs qs : List Run) (range : PageRange) (edit : Edit) : Type 0 where
  pub inside : (p : ℕ) → range.first ≤ p → p < range.end → cell_at qs p ≡ edited_cell edit (0 + (p - range.first)) (cell_at rs p)
  pub outside : (p : ℕ) → (p < range.first) ⊎ (range.end ≤ p) → cell_at qs p ≡ cell_at rs p

-- a page of a range that no slot crosses into is in a slot of the range
starts_in : (rs : List Run) (first p : ℕ) → (cell_at rs first).offset ≡ 0 → first ≤ p → (cell_at rs p).offset ≤ p - first
starts_in rs first p begins low = ⊎_elim
    (λ (l : p - first < (cell_at rs p).offset).
    let k : p - (p - first) ≡ first = omega arith in
    let e = ap (λ (c : Cell). c.offset) (sym (cell_earlier rs p (p - first) (omega arith)) ∙ ap (cell_at rs) k) in
    absurd (omega (arith, e, begins)))
    (λ (l : (cell_at rs p).offset ≤ p - first). l)
    (cases_lt (p - first) (cell_at rs p).offset)

-- a page of a slot that was changed
edited_from : (edit : Edit) (n offset : ℕ) (o : Option PageInfo) → offset ≤ n
    → info_from (edited_info edit (0 + n - offset) o) offset ≡ edited_info edit n (info_from o offset)
edited_from (Put first) n offset o l = let k : 0 + n - offset + offset ≡ n = omega arith in info_from_twice first (0 + n - offset) offset
    ∙ ap (info_from first) k
edited_from (Protect prot) n offset o l = prot_from prot o offset

pub edited_slots : (rs qs : List Run) (range : PageRange) (edit : Edit) → IsEdited rs qs range edit → (cell_at rs range.first).offset ≡ 0
    → run_slots qs ≡ edited_to (run_slots rs) range edit
edited_slots rs qs range edit h begins = same_slots _ _
    (λ p. by_test (λ x. (run_slots qs).info p ≡ x) (has range p) _ _
    (λ e. let b = has_in range p e in
    ap (λ (c : Cell). info_from c.state.info c.offset) (h.inside p b.0 b.1)
    ∙ edited_from edit (p - range.first) (cell_at rs p).offset (cell_at rs p).state.info (starts_in rs range.first p begins b.0))
    (λ e. ap (λ (c : Cell). info_from c.state.info c.offset) (h.outside p (has_not range p e))))
    (λ p. same (λ (c : Cell). c.state.owner) (λ p _ _. refl) p (has range p) refl)
    (λ p. same (λ (c : Cell). c.offset == 0) (λ p _ _. refl) p (has range p) refl)
  where
    same : {X : Type 0} (f : Cell → X)
        → ((p : ℕ) → range.first ≤ p → p < range.end → f (edited_cell edit (0 + (p - range.first)) (cell_at rs p)) ≡ f (cell_at rs p))
        → (p : ℕ) (b : Bool) → has range p ≡ b → f (cell_at qs p) ≡ f (cell_at rs p)
    same f stays p true e = let b = has_in range p e in ap f (h.inside p b.0 b.1) ∙ stays p b.0 b.1
    same f stays p false e = ap f (h.outside p (has_not range p e))

-- an edge of a slot begins it
pub begins_at : (v : Parts) (p : ℕ) → (tree_slots v).edge p ≡ true → (cell_at (runs v) p).offset ≡ 0
begins_at v p h = eq_true _ _ h

-- ---- one page

-- a change of the page alone, as one of a range
pub edited_page : (rs qs : List Run) (page : ℕ) (edit : Edit) → cell_at qs page ≡ edited_cell edit 0 (cell_at rs page)
    → ((p : ℕ) → p ≢ page → cell_at qs p ≡ cell_at rs p) → IsEdited rs qs (between page (page + 1)) edit
edited_page rs qs page edit here others = record {
  inside = λ p low high.
      let e : p ≡ page = omega arith in
      let none : 0 ≡ 0 + (p - page) = omega arith in
      ap (cell_at qs) e ∙ here ∙ ap (λ n. edited_cell edit n (cell_at rs page)) none
      ∙ ap (λ q. edited_cell edit (0 + (p - page)) (cell_at rs q)) (sym e);
  outside = λ p o. others p (λ e. ⊎_elim (λ (x : p < page). omega arith) (λ (x : page + 1 ≤ p). omega arith) o);
}

pub edited_one : (s : Slots) (page : ℕ) (edit : Edit) (o : Option PageInfo) → edited_info edit 0 (s.info page) ≡ o
    → edited_to s (between page (page + 1)) edit ≡ with_info s page o
edited_one s page edit o is = same_slots _ _ (λ p. by_test (λ x. x ≡ cond (has (between page (page + 1)) p) o (s.info p)) (has (between page (page + 1)) p) _ _
    (λ e. here p e ∙ ap (λ b. cond b o (s.info p)) (sym e))
    (λ e. ap (λ b. cond b o (s.info p)) (sym e))
    ∙ ap (λ b. cond b o (s.info p)) (has_one page p)) (λ p. refl) (λ p. refl)
  where
    here : (p : ℕ) → has (between page (page + 1)) p ≡ true → edited_info edit (p - page) (s.info p) ≡ o
    here p e =
        let b = has_in (between page (page + 1)) p e in
        let z : p - page ≡ 0 = omega (arith, b.0, b.1) in
        let k : p ≡ page = omega (arith, b.0, b.1) in
        ap (λ n. edited_info edit n (s.info p)) z ∙ ap (λ q. edited_info edit 0 (s.info q)) k ∙ is
