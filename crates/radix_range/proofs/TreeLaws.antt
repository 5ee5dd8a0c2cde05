-- What holds of each tree
use Rattle.slot_lock.proofs.Words.{◌≡◌, ◌⊎◌, inl, inr, ℕ, ◌+◌, ◌-◌, ◌*◌, ◌%◌, ◌/◌, ◌^◌, ◌<◌, ◌≤◌, ⊎_elim, true, false, List, refl, sym, ◌∙◌, ap, subst, arith}
use Rattle.slot_lock.proofs.Words.{cases_lt, IsPage, info_from, info_file_page, is_leaf, eq_false}
use Rattle.std.proofs.lemmas.Nat.{pow-add, mod-mul-add}
use Rattle.slot_lock.specs.Slots.{IsSlotMap, IsSlot}
use Rattle.slot_lock.proofs.Facts.{same_test, other_test}
use Rattle.slot_lock.proofs.ListLaws.{info_from_twice, is_leaf-info_from, file_page_on}
use Rattle.radix_node.specs.State.{State, no_state}
use Rattle.radix_node.specs.Run.{Run, Cell, cell_at, width_of, level_of, IsCell, FitsWidth, IsWhole}
use Rattle.radix_node.specs.Node.{Parts, runs}
use Rattle.radix_node.proofs.Runs.{moved, block, cell_at-past}
use Rattle.radix_range.specs.Tree.{run_slots, tree_slots, IsRadix}
use Rattle.radix_range.specs.Found.{IsSlotOf}
use Rattle.radix_range.proofs.Cells.{cell_in, cell_earlier, cell_after, slot_start}

-- ---- sizes

pub pages_are : (v : Parts) → v.level ≡ 3 → 512 * width_of v.level ≡ 2 ^ 36
pages_are v top = ap (λ n. 512 * width_of n) top ∙ top_pages
  where
    top_pages : 512 * width_of 3 ≡ 2 ^ 36
    top_pages = refl

pub cell_ok : (v : Parts) → v.level ≡ 3 → IsWhole v.level (512 * width_of v.level) (runs v) → (page : ℕ) → page < 2 ^ 36
    → IsCell v.level page (cell_at (runs v) page)
cell_ok v top whole page h = let n = pages_are v top in whole.cells page (omega arith)

-- ---- the slot of a page

pub is_slot : (rs : List Run) (page : ℕ) → IsSlot (run_slots rs) (slot_start rs page) (slot_start rs page + (cell_at rs page).width)
is_slot rs page =
    let b = block rs page in
    let e = b.cells page b.low b.high in
    let offset : (cell_at rs page).offset ≡ page - b.start = ap (λ (c : Cell). c.offset) e in
    let width : (cell_at rs page).width ≡ b.run.width = ap (λ (c : Cell). c.width) e in
    let start : b.start ≡ slot_start rs page = omega (arith, b.low) in
    let none : b.start - b.start ≡ 0 = omega arith in
    let some : b.start < b.start + b.run.width = omega (arith, b.low, b.high) in
    let slot : IsSlot (run_slots rs) b.start (b.start + b.run.width) = record {
      ordered = some;
      begins = same_test _ _ (ap (λ (c : Cell). c.offset) (b.cells b.start (omega arith) some) ∙ none);
      ends = same_test _ _ b.next;
      inside = λ p low high.
          let is : (cell_at rs p).offset ≡ p - b.start = ap (λ (c : Cell). c.offset) (b.cells p (omega arith) high) in
          other_test _ _ (omega arith);
    } in
    subst (λ n. IsSlot (run_slots rs) n (n + (cell_at rs page).width)) start
    (subst (λ n. IsSlot (run_slots rs) b.start (b.start + n)) (sym width) slot)

-- a page of the slot
pub cell_of : (rs : List Run) (page p : ℕ) → slot_start rs page ≤ p → p < slot_start rs page + (cell_at rs page).width
    → cell_at rs p ≡ moved (cell_at rs page) (p - slot_start rs page)
cell_of rs page p low high =
    let b = block rs page in
    let e = b.cells page b.low b.high in
    let offset : (cell_at rs page).offset ≡ page - b.start = ap (λ (c : Cell). c.offset) e in
    let width : (cell_at rs page).width ≡ b.run.width = ap (λ (c : Cell). c.width) e in
    let n : p - b.start ≡ p - slot_start rs page = omega (arith, b.low) in
    b.cells p (omega (arith, b.low)) (omega (arith, b.low)) ∙ ap (λ o. record { state = b.run.state; offset = o; width = b.run.width }) n
    ∙ ap (λ (c : Cell). moved c (p - slot_start rs page)) (sym e)

pub is_found : (v : Parts) → IsRadix v → (page : ℕ) → page < 2 ^ 36
    → IsSlotOf (tree_slots v) page (slot_start (runs v) page)
    (slot_start (runs v) page + (cell_at (runs v) page).width) (cell_at (runs v) page).state
is_found v ok page h =
    let rs = runs v in
    let c = cell_in rs page in
    let n : slot_start rs page + (cell_at rs page).width - slot_start rs page ≡ (cell_at rs page).width =
    omega arith in
    record {
      slot = is_slot rs page;
      low = omega (arith, c.low);
      high = omega (arith, c.low, c.high);
      info = λ p a b. ap (λ (c : Cell). info_from c.state.info c.offset) (cell_of rs page p a b);
      owner = λ p a b. ap (λ (c : Cell). c.state.owner) (cell_of rs page p a b);
      sound = subst (λ w. FitsWidth w (cell_at rs page).state) (sym n) (cell_ok v ok.top ok.whole page h).sound;
    }

-- ---- the laws

-- the page before one that begins no slot is in the same slot
before_is : (rs : List Run) (p : ℕ) → (run_slots rs).edge (p + 1) ≡ false
    → cell_at rs p ≡ moved (cell_at rs (p + 1)) ((cell_at rs (p + 1)).offset - 1)
before_is rs p h =
    let o = eq_false _ _ h in
    let k : p + 1 - 1 ≡ p = omega arith in
    ap (cell_at rs) (sym k) ∙ cell_earlier rs (p + 1) 1 (omega arith)

-- a page at a multiple of the widest slot begins one
limit_edge : (c : Cell) → IsCell 3 (2 ^ 35) c → c.offset ≡ 0
limit_edge c h =
    let l : ℕ = level_of c.width in
    let low = h.low in
    let w : c.width ≡ 2 ^ (9 * l) = h.width_is in
    let e : 35 ≡ 35 - 9 * l + 9 * l = omega arith in
    let split : 2 ^ 35 ≡ 2 ^ (35 - 9 * l) * 2 ^ (9 * l) =
    ap (λ n. 2 ^ n) e ∙ pow-add 2 (35 - 9 * l) (9 * l) in
    let other : 2 ^ (35 - 9 * l) * c.width + 0 ≡ 2 ^ 35 / c.width * c.width + c.offset =
    add_zero (2 ^ (35 - 9 * l) * c.width) ∙ ap (λ n. 2 ^ (35 - 9 * l) * n) w ∙ sym split
    ∙ h.place in
    sym (mod-mul-add (2 ^ 35 / c.width) c.width c.offset h.within)
    ∙ ap (λ n. n % c.width) (sym other)
    ∙ mod-mul-add (2 ^ (35 - 9 * l)) c.width 0 (omega (arith, h.within))
  where
    add_zero : (n : ℕ) → n + 0 ≡ n
    add_zero n = omega arith

leaf_no_state : (n : ℕ) → is_leaf (info_from no_state.info n) ≡ true → ⊥
leaf_no_state n h = cc

tree_laws : (v : Parts) → v.level ≡ 3 → IsWhole v.level (512 * width_of v.level) (runs v)
    → ((p : ℕ) → ¬ IsPage p → (cell_at (runs v) p).state ≡ no_state) → IsSlotMap (tree_slots v)
tree_laws v top whole outside = record {
  limit = same_test _ _
      (limit_edge (cell_at rs (2 ^ 35)) (subst (λ n. IsCell n (2 ^ 35) (cell_at rs (2 ^ 35))) top
      (cell_ok v top whole (2 ^ 35) (omega arith))));
  unmapped = λ p h. ap (λ (s : State). info_from s.info (cell_at rs p).offset) (outside p h);
  free = λ p h. ap (λ (s : State). s.owner) (outside p h);
  same_owner = λ p _ h. sym (ap (λ (c : Cell). c.state.owner) (before_is rs p h));
  goes_on = λ p _ h. on p h;
  alone = λ p h. ⊎_elim
      (λ (l : p < 2 ^ 36). alone p l h)
      (λ (l : 2 ^ 36 ≤ p). absurd
      (leaf_no_state 0
      (sym (ap (λ (c : Cell). is_leaf (info_from c.state.info c.offset)) (past p l)) ∙ h)))
      (cases_lt p (2 ^ 36));
  fits = λ p. ⊎_elim
      (λ (l : p < 2 ^ 36).
      let c = cell_ok v top whole p l in
      omega (arith, file_page_on (cell_at rs p).state.info (cell_at rs p).offset, c.within, c.sound.fits))
      (λ (l : 2 ^ 36 ≤ p).
      let none =
      ap (λ (c : Cell). info_file_page (info_from c.state.info c.offset)) (past p l) in
      omega arith)
      (cases_lt p (2 ^ 36));
}
  where
    rs : List Run
    rs = runs v

    past : (p : ℕ) → 2 ^ 36 ≤ p → cell_at rs p ≡ record { state = no_state; offset = 0; width = 1 }
    past p l = let n = pages_are v top in cell_at-past rs p (omega (arith, whole.pages_are))

    on : (p : ℕ) → (tree_slots v).edge (p + 1) ≡ false
        → (tree_slots v).info (p + 1) ≡ info_from ((tree_slots v).info p) 1
    on p h =
        let o = eq_false _ _ h in
        let c : Cell = cell_at rs (p + 1) in
        let k : c.offset ≡ c.offset - 1 + 1 = omega arith in
        ap (info_from c.state.info) k ∙ sym (info_from_twice c.state.info (c.offset - 1) 1)
        ∙ ap (λ (c : Cell). info_from (info_from c.state.info c.offset) 1) (sym (before_is rs p h))

    alone : (p : ℕ) → p < 2 ^ 36 → is_leaf ((tree_slots v).info p) ≡ true
        → ((tree_slots v).edge p ≡ true) × ((tree_slots v).edge (p + 1) ≡ true)
    alone p l h =
        let c = cell_ok v top whole p l in
        let one =
        c.sound.alone (sym (is_leaf-info_from (cell_at rs p).state.info (cell_at rs p).offset) ∙ h)
        in
        let zero : (cell_at rs p).offset ≡ 0 = omega (arith, c.within) in
        let next : p - (cell_at rs p).offset + (cell_at rs p).width ≡ p + 1 = omega arith in (
          same_test _ _ zero,
          same_test _ _
              (ap (λ n. (cell_at rs n).offset) (sym next) ∙ cell_after rs p),
        )

pub is_radix : (v : Parts) → v.level ≡ 3 → IsWhole v.level (512 * width_of v.level) (runs v)
    → ((p : ℕ) → ¬ IsPage p → (cell_at (runs v) p).state ≡ no_state) → IsRadix v
is_radix v top whole outside = record { top = top; whole = whole; outside = outside; laws = λ s same. rw same (tree_laws v top whole outside) }

-- a tree stays one where its pages outside of a range of valid ones are as they were
pub still_radix : (v u : Parts) → IsRadix v → (first end : ℕ) → 1 ≤ first → end ≤ 2 ^ 35
    → ((p : ℕ) → (p < first) ⊎ (end ≤ p) → cell_at (runs u) p ≡ cell_at (runs v) p) → u.level ≡ v.level
    → IsWhole u.level (512 * width_of u.level) (runs u) → IsRadix u
still_radix v u ok first end low high others same whole =
    is_radix u (same ∙ ok.top) whole (λ p not. ap (λ (c : Cell). c.state) (others p (out p not)) ∙ ok.outside p not)
  where
    out : (p : ℕ) → ¬ IsPage p → (p < first) ⊎ (end ≤ p)
    out p not = ⊎_elim (λ (l : p < first). inl l) (λ (l : first ≤ p). ⊎_elim (λ (m : p < end). absurd (not (omega arith, omega arith)))
        (λ (m : end ≤ p). inr m) (cases_lt p end)) (cases_lt p first)
