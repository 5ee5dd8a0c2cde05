-- A folded node, and one that can't be folded
use Rattle.slot_lock.proofs.Words.{◌≡◌, ℕ, ◌+◌, ◌-◌, ◌*◌, ◌<◌, ◌≤◌, ◌⊎◌, inl, inr, false, List, Option, None, refl, sym, ◌∙◌, ap, subst, arith, PageInfo, has}
use Rattle.slot_lock.proofs.Words.{info_from, is_leaf, by_test, has_in, eq_true}
use Rattle.slot_lock.specs.Slots.{IsSlot, between}
use Rattle.slot_lock.proofs.ListLaws.{info_from_zero}
use Rattle.slot_lock.proofs.Edits.{has_not, same_slots}
use Rattle.radix_node.specs.State.{state_from, IsPlain}
use Rattle.radix_node.specs.Run.{Run, Cell, cell_at, width_of, CanFoldRuns}
use Rattle.radix_node.specs.Node.{Parts, runs}
use Rattle.radix_node.proofs.Flat.{width-below}
use Rattle.radix_node.proofs.Divided.{part_ends}
use Rattle.radix_range.specs.Tree.{run_slots, tree_slots, IsRadix}
use Rattle.radix_range.proofs.Cells.{cell_in, slot_start}
use Rattle.radix_range.proofs.TreeLaws.{is_slot, cell_of}
use Rattle.radix_range.specs.Folds.{CanFold, joined, FoldsNode}
use Rattle.radix_range.proofs.Expansions.{IsExpanded, info_kept, owner_kept, outer_edge}
use Rattle.radix_range.proofs.Sets.{begins}
use Rattle.slot_lock.proofs.Facts.{other_test}

-- ---- where no node can be folded

cell_is : (c : Cell) (i : Option PageInfo) (w : ℕ) → c.state.info ≡ i → c.state.owner ≡ None → c.offset ≡ 0 → c.width ≡ w
    → c ≡ record { state = record { info = i; owner = None }; offset = 0; width = w }
cell_is c i w info owner zero width = λ j. record { state = record { info = info j; owner = owner j }; offset = zero j; width = width j }

-- the slot that begins at a page
slot_cell : (rs : List Run) (a w : ℕ) → IsSlot (run_slots rs) a (a + w) → ((cell_at rs a).offset ≡ 0) × ((cell_at rs a).width ≡ w)
slot_cell rs a w slot =
    let b = begins rs a (a + w) slot in
    let width = b.width in
    (eq_true _ _ slot.begins, omega arith)

info_first : (rs : List Run) (a : ℕ) → (cell_at rs a).offset ≡ 0 → (cell_at rs a).state.info ≡ (run_slots rs).info a
info_first rs a zero = sym (info_from_zero (cell_at rs a).state.info) ∙ ap (info_from (cell_at rs a).state.info) (sym zero)

pub can_join : (v : Parts) → IsRadix v → (page : ℕ) → CanFold (tree_slots v) page → CanFoldRuns v.level (runs v) page
can_join v ok page can =
    let rs = runs v in
    let base : ℕ = can.before * width_of (can.level + 1) in
    let w : ℕ = width_of can.level in
    let top = ok.top in
    record {
      own_level = can.level;
      low = (let l = can.below_root in omega arith);
      state = record { info = (tree_slots v).info base; owner = None };
      plain = record { free = refl; no_leaf = can.no_leaf };
      before = can.before;
      from = can.from;
      until = can.until;
      slots = λ k l.
          let at = slot_cell rs (base + k * w) w (can.slots k l) in
          cell_is (cell_at rs (base + k * w)) (info_from ((tree_slots v).info base) (k * w)) w (info_first rs (base + k * w) at.0
          ∙ can.goes_on k l) (can.free k l) at.0 at.1;
    }

-- ---- a folded node

part_first : (rs qs : List Run) (page : ℕ) (e : IsExpanded rs qs page) (k : ℕ) → k < 512
    → cell_at qs (slot_start rs page + k * e.part) ≡ record {
      state = state_from (cell_at rs page).state (k * e.part);
      offset = 0;
      width = e.part;
    }
part_first rs qs page e k l =
    let at : slot_start rs page + k * e.part ≡ slot_start rs page + (k * e.part + 0) = omega arith in
    ap (cell_at qs) at ∙ e.inside k 0 l e.some

part_slot : (rs qs : List Run) (page : ℕ) (e : IsExpanded rs qs page) (k : ℕ) → k < 512
    → IsSlot (run_slots qs) (slot_start rs page + k * e.part) (slot_start rs page + k * e.part + e.part)
part_slot rs qs page e k l =
    let p : ℕ = slot_start rs page + k * e.part in
    let c = part_first rs qs page e k l in
    let zero : (cell_at qs p).offset ≡ 0 = ap (λ (c : Cell). c.offset) c in
    let start : slot_start qs p ≡ p = omega arith in
    let width : (cell_at qs p).width ≡ e.part = ap (λ (c : Cell). c.width) c in
    subst (λ n. IsSlot (run_slots qs) p (p + n)) width (subst (λ n. IsSlot (run_slots qs) n (n + (cell_at qs p).width)) start (is_slot qs p))

pub could_fold : (rs qs : List Run) (page : ℕ) → IsPlain (cell_at rs page).state → IsExpanded rs qs page → CanFold (run_slots qs) page
could_fold rs qs page plain e =
    let c = cell_in rs page in
    let width = e.width in
    let w = e.part_is in
    let start = e.start_is in
    let some = e.some in
    let full : 512 * e.part ≡ width_of (e.level + 1) = ap (λ n. 512 * n) w ∙ width-below e.level (e.level + 1) refl in
    let first : (run_slots qs).info (slot_start rs page) ≡ (cell_at rs page).state.info = info_kept rs qs page e (slot_start rs page)
    ∙ own (slot_start rs page) 0 (omega arith) (omega arith) ∙ info_from_zero (cell_at rs page).state.info in
    let place : (k : ℕ) → slot_start rs page + k * e.part ≡ e.before * width_of (e.level + 1) + k * width_of e.level = λ k.
    ap (λ n. n + k * e.part) start ∙ ap (λ n. e.before * width_of (e.level + 1) + k * n) w in
    record {
      level = e.level;
      below_root = e.below_root;
      before = e.before;
      from = omega (arith, c.low);
      until = omega (arith, c.low, c.high);
      slots = λ k l. subst (λ n. IsSlot (run_slots qs) n (n + width_of e.level)) (place k)
          (subst (λ n. IsSlot (run_slots qs) (slot_start rs page + k * e.part) (slot_start rs page + k * e.part + n)) w
          (part_slot rs qs page e k l));
      free = λ k l. ap (λ p. (cell_at qs p).state.owner) (sym (place k)) ∙ ap (λ (c : Cell). c.state.owner) (part_first rs qs page e k l) ∙ plain.free;
      no_leaf = ap (λ p. is_leaf ((run_slots qs).info p)) (sym start) ∙ ap is_leaf first ∙ plain.no_leaf;
      goes_on = λ k l.
          let ends = part_ends e.part k l in
          ap (λ p. (run_slots qs).info p) (sym (place k)) ∙ info_kept rs qs page e (slot_start rs page + k * e.part)
          ∙ own (slot_start rs page + k * e.part) (k * e.part) (omega arith) (omega arith)
          ∙ ap (λ o. info_from o (k * e.part)) (sym first) ∙ ap (λ p. info_from ((run_slots qs).info p) (k * e.part)) start
          ∙ ap (λ n. info_from ((run_slots qs).info (e.before * width_of (e.level + 1))) (k * n)) w;
    }
  where
    own : (p n : ℕ) → p ≡ slot_start rs page + n → n < (cell_at rs page).width → (run_slots rs).info p ≡ info_from (cell_at rs page).state.info n
    own p n at l =
        let back : p - slot_start rs page ≡ n = omega arith in
        ap (λ (c : Cell). info_from c.state.info c.offset) (cell_of rs page p (omega arith) (omega arith)) ∙ ap (info_from (cell_at rs page).state.info) back

edges_joined : (rs qs : List Run) (page first end : ℕ) → IsExpanded rs qs page → first ≡ slot_start rs page
    → end ≡ slot_start rs page + (cell_at rs page).width → run_slots rs ≡ joined (run_slots qs) first end
edges_joined rs qs page first end e is ends = same_slots _ _
    (λ p. sym (info_kept rs qs page e p))
    (λ p. sym (owner_kept rs qs page e p))
    (λ p. by_test (λ x. (run_slots rs).edge p ≡ x) (has (between (first + 1) end) p) _ _
    (λ t. let b = has_in (between (first + 1) end) p t in inner p (omega arith) (omega arith))
    (λ t. sym (outer_edge rs qs page e p (away p (has_not (between (first + 1) end) p t)))))
  where
    inner : (p : ℕ) → slot_start rs page < p → p < slot_start rs page + (cell_at rs page).width → (run_slots rs).edge p ≡ false
    inner p a b = other_test _ _ (λ zero. let o = sym (ap (λ (c : Cell). c.offset) (cell_of rs page p (omega arith) b)) ∙ zero in absurd (omega arith))

    away : (p : ℕ) → (p < first + 1) ⊎ (end ≤ p) → (p < slot_start rs page + 1) ⊎ (slot_start rs page + (cell_at rs page).width ≤ p)
    away p (inl l) = inl (omega arith)
    away p (inr l) = inr (omega arith)

pub folds_node : (v u : Parts) (page : ℕ) → IsPlain (cell_at (runs u) page).state → IsExpanded (runs u) (runs v) page
    → FoldsNode (tree_slots v) (tree_slots u) page
unfolding could_fold
folds_node v u page plain e =
    let w = e.part_is in
    let width = e.width in
    let full : 512 * e.part ≡ width_of (e.level + 1) = ap (λ n. 512 * n) w ∙ width-below e.level (e.level + 1) refl in
    let start = e.start_is in
    record {
      could = could_fold (runs u) (runs v) page plain e;
      now = edges_joined (runs u) (runs v) page (e.before * width_of (e.level + 1))
          (e.before * width_of (e.level + 1) + width_of (e.level + 1)) e (sym start) (omega arith);
    }
