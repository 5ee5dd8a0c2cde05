-- A slot that became 512 slots, and back
use Rattle.slot_lock.proofs.Words.{◌≡◌, ℕ, ◌+◌, ◌-◌, ◌*◌, ◌/◌, ◌%◌, ◌^◌, ◌<◌, ◌≤◌, ◌==◌, ◌⊎◌, inl, inr, ⊎_elim, Bool, true, false, List, Option, Some, None}
use Rattle.slot_lock.proofs.Words.{refl, sym, ◌∙◌, ap, subst, arith, OnOk, cases_lt, PageInfo, IsPage, PageRange, has, info_from, is_leaf, by_test, has_in}
use Rattle.slot_lock.proofs.Words.{eq_true, eq_false}
use Rattle.std.specs.Prelude.{Result, Ok, Err, OnErr}
use Rattle.std.proofs.lemmas.Nat.{mod-mul-add}
use Rattle.slot_lock.specs.Slots.{Slots, Divides, DividesAs, Joins, CanBeOne, between}
use Rattle.slot_lock.proofs.ListLaws.{info_from_twice, is_leaf-info_from}
use Rattle.slot_lock.proofs.Edits.{has_not, same_slots}
use Rattle.slot_lock.proofs.Steps.{slot_by_edge}
use Rattle.radix_node.specs.State.{State, no_state, state_from, IsPlain}
use Rattle.radix_node.specs.Run.{Run, Cell, total, cell_at, with_run, in_parts, divided, width_of, level_of, FoldsRuns, IsCell, IsWhole}
use Rattle.radix_node.specs.Node.{Parts, runs}
use Rattle.radix_node.proofs.Flat.{place_index, width-below, width_pos}
use Rattle.radix_node.proofs.Joined.{cell_at-divided, total-divided}
use Rattle.radix_node.proofs.Divided.{part_ends}
use Rattle.radix_node.proofs.Folds.{in_parts-is, large_level}
use Rattle.radix_range.specs.Tree.{run_slots, tree_slots, IsRadix}
use Rattle.radix_range.specs.Found.{in_512}
use Rattle.radix_range.proofs.Cells.{cell_in, run_of, slot_start, changed_inside, changed_outside}
use Rattle.radix_range.proofs.TreeLaws.{pages_are, cell_ok, is_slot, cell_of, is_radix}
use Rattle.slot_lock.proofs.Facts.{same_test, other_test, two}

-- the page's slot became 512 slots of so many pages
pub record IsExpanded (rs qs : List Run) (page : ℕ) : Type 0 where
  pub level : ℕ
  pub below_root : level < 3
  pub part : ℕ
  pub part_is : part ≡ width_of level
  pub before : ℕ
  pub start_is : slot_start rs page ≡ before * width_of (level + 1)
  pub some : 0 < part
  pub width : (cell_at rs page).width ≡ 512 * part
  pub inside : (k o : ℕ) → k < 512 → o < part
      → cell_at qs (slot_start rs page + (k * part + o)) ≡ record {
        state = state_from (cell_at rs page).state (k * part);
        offset = o;
        width = part;
      }
  pub outside : (p : ℕ) → (p < slot_start rs page) ⊎ (slot_start rs page + (cell_at rs page).width ≤ p) → cell_at qs p ≡ cell_at rs p

pub expanded : (rs : List Run) (level page : ℕ) → level ≤ 3 → page < total rs → IsCell level page (cell_at rs page)
    → 1 < (cell_at rs page).width → IsExpanded rs (with_run in_parts rs page) page
expanded rs level page top h c large =
    let l : ℕ = level_of (cell_at rs page).width in
    let pos = large_level l (let w = c.width_is in omega arith) in
    let one : l - 1 + 1 ≡ l = omega arith in
    let w : 512 * width_of (l - 1) ≡ (cell_at rs page).width = width-below (l - 1) l one ∙ sym c.width_is in
    let is : in_parts (run_of (cell_at rs page)) ≡ divided (width_of (l - 1)) (cell_at rs page).state =
    ap (λ n. in_parts (record { width = n; state = (cell_at rs page).state })) c.width_is ∙ in_parts-is l (l - 1) (cell_at rs page).state one in
    let t : total (in_parts (run_of (cell_at rs page))) ≡ (cell_at rs page).width = ap total is
    ∙ total-divided (width_of (l - 1)) (cell_at rs page).state ∙ w in
    let whole : width_of (l - 1 + 1) ≡ (cell_at rs page).width = ap width_of one ∙ sym c.width_is in
    let place = c.place in
    record {
      level = l - 1;
      below_root = omega (arith, c.low);
      part = width_of (l - 1);
      part_is = refl;
      before = page / (cell_at rs page).width;
      start_is = (let e : slot_start rs page ≡ page / (cell_at rs page).width * (cell_at rs page).width = omega arith in e)
          ∙ ap (λ n. page / (cell_at rs page).width * n) (sym whole);
      some = width_pos (l - 1);
      width = sym w;
      inside = λ k o m b.
          let lt : k * width_of (l - 1) + o < (cell_at rs page).width = omega (arith, most (width_of (l - 1)) k m) in
          changed_inside in_parts rs page (k * width_of (l - 1) + o) h t lt ∙ ap (λ qs. cell_at qs (k * width_of (l - 1) + o)) is
          ∙ cell_at-divided (width_of (l - 1)) k o (k * width_of (l - 1) + o) (cell_at rs page).state m b refl;
      outside = λ p o. changed_outside in_parts rs page p h t o;
    }
  where
    most : (n k : ℕ) → k < 512 → k * n + n ≤ 512 * n
    most n k h = part_ends n k h

-- the part of a slot that a page is in
pub record IsPart (rs : List Run) (page part p : ℕ) : Type 0 where
  pub k : ℕ
  pub o : ℕ
  pub k_in : k < 512
  pub o_in : o < part
  pub is : p ≡ slot_start rs page + (k * part + o)

pub part_of : (rs qs : List Run) (page p : ℕ) (e : IsExpanded rs qs page) → slot_start rs page ≤ p
    → p < slot_start rs page + (cell_at rs page).width → IsPart rs page e.part p
part_of rs qs page p e a b =
    let w = e.width in
    let at = place_index e.part (p - slot_start rs page) e.some (omega arith) in
    record { k = at.0; o = p - slot_start rs page - at.0 * e.part; k_in = at.1; o_in = omega (arith, at.2, at.3); is = omega (arith, at.2) }

-- a page is in the slot or outside it
in_or_out : (rs : List Run) (page p : ℕ) → ((slot_start rs page ≤ p) × (p < slot_start rs page + (cell_at rs page).width))
    ⊎ ((p < slot_start rs page) ⊎ (slot_start rs page + (cell_at rs page).width ≤ p))
in_or_out rs page p = ⊎_elim
    (λ (l : p < slot_start rs page). inr (inl l))
    (λ (l : slot_start rs page ≤ p). ⊎_elim (λ (m : p < slot_start rs page + (cell_at rs page).width). inl (l, m)) (λ m. inr (inr m))
    (cases_lt p (slot_start rs page + (cell_at rs page).width)))
    (cases_lt p (slot_start rs page))

pub info_kept : (rs qs : List Run) (page : ℕ) → IsExpanded rs qs page → (p : ℕ) → (run_slots qs).info p ≡ (run_slots rs).info p
info_kept rs qs page e p = ⊎_elim (λ b. here b.0 b.1) (λ o. ap (λ (c : Cell). info_from c.state.info c.offset) (e.outside p o)) (in_or_out rs page p)
  where
    here : slot_start rs page ≤ p → p < slot_start rs page + (cell_at rs page).width → (run_slots qs).info p ≡ (run_slots rs).info p
    here a b =
        let at = part_of rs qs page p e a b in
        let n : at.k * e.part + at.o ≡ p - slot_start rs page = omega (arith, at.is) in
        ap (λ (c : Cell). info_from c.state.info c.offset) (ap (cell_at qs) at.is ∙ e.inside at.k at.o at.k_in at.o_in)
        ∙ info_from_twice (cell_at rs page).state.info (at.k * e.part) at.o
        ∙ ap (info_from (cell_at rs page).state.info) n
        ∙ ap (λ (c : Cell). info_from c.state.info c.offset) (sym (cell_of rs page p a b))

pub owner_kept : (rs qs : List Run) (page : ℕ) → IsExpanded rs qs page → (p : ℕ) → (run_slots qs).owner p ≡ (run_slots rs).owner p
owner_kept rs qs page e p = ⊎_elim (λ b. here b.0 b.1) (λ o. ap (λ (c : Cell). c.state.owner) (e.outside p o)) (in_or_out rs page p)
  where
    here : slot_start rs page ≤ p → p < slot_start rs page + (cell_at rs page).width → (run_slots qs).owner p ≡ (run_slots rs).owner p
    here a b =
        let at = part_of rs qs page p e a b in
        ap (λ (c : Cell). c.state.owner) (ap (cell_at qs) at.is ∙ e.inside at.k at.o at.k_in at.o_in)
        ∙ ap (λ (c : Cell). c.state.owner) (sym (cell_of rs page p a b))

edges_kept : (rs qs : List Run) (page : ℕ) → IsExpanded rs qs page → (p : ℕ) → (run_slots rs).edge p ≡ true → (run_slots qs).edge p ≡ true
edges_kept rs qs page e p h = ⊎_elim (λ b. here b.0 b.1) (λ o. ap (λ (c : Cell). c.offset == 0) (e.outside p o) ∙ h) (in_or_out rs page p)
  where
    here : slot_start rs page ≤ p → p < slot_start rs page + (cell_at rs page).width → (run_slots qs).edge p ≡ true
    here a b =
        let zero : p - slot_start rs page ≡ 0 = sym (ap (λ (c : Cell). c.offset) (cell_of rs page p a b)) ∙ eq_true _ _ h in
        let first : p ≡ slot_start rs page + (0 * e.part + 0) = omega arith in
        same_test _ _ (ap (λ (c : Cell). c.offset) (ap (cell_at qs) first ∙ e.inside 0 0 (omega arith) e.some))

pub divides : (rs qs : List Run) (page : ℕ) (e : IsExpanded rs qs page) → Divides (run_slots rs) (run_slots qs) (cell_at rs page).state.owner
    (slot_start rs page + e.part)
divides rs qs page e = record {
  info = λ j p. info_kept rs qs page e p j;
  owners = λ j p. owner_kept rs qs page e p j;
  kept = edges_kept rs qs page e;
  was_inside =
      let w = e.width in
      let some = e.some in
      let cell = cell_of rs page (slot_start rs page + e.part) (omega arith) (omega arith) in
      other_test _ _ (λ zero. let off = sym (ap (λ (c : Cell). c.offset) cell) ∙ zero in absurd (omega arith));
  begins =
      let at : slot_start rs page + e.part ≡ slot_start rs page + (1 * e.part + 0) = omega arith in
      same_test _ _ (ap (λ (c : Cell). c.offset) (ap (cell_at qs) at ∙ e.inside 1 0 (omega arith) e.some));
  elsewhere = λ p other. ⊎_elim
      (λ b. absurd (other (ap (λ (c : Cell). c.state.owner) (cell_of rs page p b.0 b.1))))
      (λ o. ap (λ (c : Cell). c.offset == 0) (e.outside p o))
      (in_or_out rs page p);
}

-- ---- a tree whose slot was expanded

no_state_from : (n : ℕ) → state_from no_state n ≡ no_state
no_state_from n = refl

state_kept : (rs qs : List Run) (page : ℕ) → IsExpanded rs qs page → (p : ℕ) → (cell_at rs p).state ≡ no_state → (cell_at qs p).state ≡ no_state
state_kept rs qs page e p h = ⊎_elim (λ b. here b.0 b.1) (λ o. ap (λ (c : Cell). c.state) (e.outside p o) ∙ h) (in_or_out rs page p)
  where
    here : slot_start rs page ≤ p → p < slot_start rs page + (cell_at rs page).width → (cell_at qs p).state ≡ no_state
    here a b =
        let at = part_of rs qs page p e a b in
        let none : (cell_at rs page).state ≡ no_state = ap (λ (c : Cell). c.state) (sym (cell_of rs page p a b)) ∙ h in
        ap (λ (c : Cell). c.state) (ap (cell_at qs) at.is ∙ e.inside at.k at.o at.k_in at.o_in)
        ∙ ap (λ s. state_from s (at.k * e.part)) none ∙ no_state_from (at.k * e.part)

pub tree_expanded : (v u : Parts) → IsRadix v → (page : ℕ) → page < 2 ^ 36 → 1 < (cell_at (runs v) page).width
    → runs u ≡ with_run in_parts (runs v) page → IsExpanded (runs v) (runs u) page
tree_expanded v u ok page h large e =
    let n = pages_are v ok.top in
    subst (λ qs. IsExpanded (runs v) qs page) (sym e) (expanded (runs v) v.level page (let t = ok.top in omega arith)
    (omega (arith, ok.whole.pages_are)) (cell_ok v ok.top ok.whole page h) large)

pub expanded-IsRadix : (v u : Parts) → IsRadix v → (page : ℕ) → IsExpanded (runs v) (runs u) page → u.level ≡ v.level
    → IsWhole u.level (512 * width_of u.level) (runs u) → IsRadix u
expanded-IsRadix v u ok page e same whole = is_radix u (same ∙ ok.top) whole (λ p h. state_kept (runs v) (runs u) page e p (ok.outside p h))

-- a valid page's slot ends by the limit
ends_by_limit : (v : Parts) → IsRadix v → (page : ℕ) → page < 2 ^ 35 → slot_start (runs v) page + (cell_at (runs v) page).width ≤ 2 ^ 35
ends_by_limit v ok page l =
    let rs = runs v in
    let c = cell_in rs page in
    slot_by_edge (tree_slots v) (slot_start rs page) (slot_start rs page + (cell_at rs page).width) (2 ^ 35) (is_slot rs page)
    (ok.laws _ refl).limit (omega arith)

pub divides_at : (v u : Parts) → IsRadix v → (page : ℕ) → IsPage page → IsExpanded (runs v) (runs u) page → (at : ℕ) × IsPage at
    × Divides (tree_slots v) (tree_slots u) ((tree_slots v).owner page) at
divides_at v u ok page valid e =
    let rs = runs v in
    let c = cell_in rs page in
    let w = e.width in
    let some = e.some in
    let limit = ends_by_limit v ok page valid.1 in
    (slot_start rs page + e.part, (omega arith, omega arith), divides rs (runs u) page e)

-- the edges outside the slot stay, and so does its first
pub outer_edge : (rs qs : List Run) (page : ℕ) → IsExpanded rs qs page → (p : ℕ) → (p < slot_start rs page + 1)
    ⊎ (slot_start rs page + (cell_at rs page).width ≤ p) → (run_slots qs).edge p ≡ (run_slots rs).edge p
outer_edge rs qs page e p (inr l) = ap (λ (c : Cell). c.offset == 0) (e.outside p (inr l))
outer_edge rs qs page e p (inl l) = ⊎_elim
    (λ (m : p < slot_start rs page). ap (λ (c : Cell). c.offset == 0) (e.outside p (inl m)))
    (λ (m : slot_start rs page ≤ p).
    let same : p ≡ slot_start rs page = omega arith in
    let old = (is_slot rs page).begins in
    rw same (edges_kept rs qs page e (slot_start rs page) old ∙ sym old))
    (cases_lt p (slot_start rs page))

pub divides_as : (rs qs : List Run) (page : ℕ) → (run_slots rs).edge page ≡ false → IsExpanded rs qs page → DividesAs in_512 (run_slots rs) (run_slots qs) page
divides_as rs qs page crossed e =
    let c = cell_in rs page in
    let inside = eq_false _ _ crossed in
    record {
      slot = slot;
      is_slot = is_slot rs page;
      above = omega (arith, c.low);
      below = omega (arith, c.low, c.high);
      now = same_slots _ _ (info_kept rs qs page e) (owner_kept rs qs page e)
          (λ p. by_test (λ x. (run_slots qs).edge p ≡ x) (has (between (slot.first + 1) slot.end) p) _ _
          (λ t. let b = has_in (between (slot.first + 1) slot.end) p t in inner p (omega (arith, b.0)) b.1)
          (λ t. outer_edge rs qs page e p (has_not (between (slot.first + 1) slot.end) p t)));
    }
  where
    slot : PageRange
    slot = between (slot_start rs page) (slot_start rs page + (cell_at rs page).width)

    inner : (p : ℕ) → slot_start rs page ≤ p → p < slot_start rs page + (cell_at rs page).width → (run_slots qs).edge p ≡ in_512 slot page p
    inner p a b =
        let at = part_of rs qs page p e a b in
        let w = e.width in
        let offset : (cell_at qs p).offset ≡ at.o = ap (λ (c : Cell). c.offset) (ap (cell_at qs) at.is ∙ e.inside at.k at.o at.k_in at.o_in) in
        let size : slot.end - slot.first ≡ 512 * e.part = omega arith in
        let part : (slot.end - slot.first) / 512 ≡ e.part = omega arith in
        let from : p - slot.first ≡ at.k * e.part + at.o = omega (arith, at.is) in
        let rest : (p - slot.first) % ((slot.end - slot.first) / 512) ≡ at.o = rw (part, from) (mod-mul-add at.k e.part at.o at.o_in) in
        ap (λ n. n == 0) (offset ∙ sym rest)

-- ---- a tree whose slots were joined

pub joins_back : (s t : Slots) (at : ℕ) → Divides t s None at → ((p : ℕ) → s.edge p ≡ true → t.edge p ≡ false → CanBeOne s p) → Joins s t
joins_back s t at d could = record {
  info = sym d.info;
  owners = sym d.owners;
  kept = λ p h. kept p (t.edge p) refl h;
  elsewhere = λ p h. sym (d.elsewhere p (λ none. h (owner p ∙ none)));
  removed = (at, d.begins, d.was_inside);
  could = could;
}
  where
    owner : (p : ℕ) → s.owner p ≡ t.owner p
    owner p = λ j. d.owners j p

    kept : (p : ℕ) (b : Bool) → t.edge p ≡ b → s.edge p ≡ false → t.edge p ≡ false
    kept p true e h = absurd (two _ h (d.kept p e))
    kept p false e h = e

pub tree_folded : (v u : Parts) → IsRadix v → (page : ℕ) → page < 2 ^ 36 → u.level ≡ v.level → IsWhole u.level (512 * width_of u.level)
    (runs u) → FoldsRuns (runs v) (runs u) page → IsExpanded (runs u) (runs v) page
tree_folded v u ok page h same whole f =
    let n = pages_are v ok.top in
    let m : 512 * width_of u.level ≡ 2 ^ 36 = ap (λ k. 512 * width_of k) same ∙ n in
    subst (λ qs. IsExpanded (runs u) qs page) (sym f.parts) (expanded (runs u) u.level page (let t = ok.top in omega arith)
    (omega (arith, whole.pages_are)) (whole.cells page (omega arith)) f.large)

info_none : (o : Option PageInfo) (n : ℕ) → info_from o n ≡ None → o ≡ None
info_none None n h = refl
info_none (Some i) n h = cc

no_state_back : (s : State) (n : ℕ) → state_from s n ≡ no_state → s ≡ no_state
no_state_back s n h =
    let i = info_none s.info n (ap (λ (s : State). s.info) h) in
    let o = ap (λ (s : State). s.owner) h in
    ap (λ x. record { info = x; owner = s.owner }) i ∙ ap (λ x. record { info = None; owner = x }) o

pub folded-IsRadix : (v u : Parts) → IsRadix v → (page : ℕ) → IsExpanded (runs u) (runs v) page → u.level ≡ v.level
    → IsWhole u.level (512 * width_of u.level) (runs u) → IsRadix u
folded-IsRadix v u ok page e same whole = is_radix u (same ∙ ok.top) whole
    (λ p h. ⊎_elim (λ b. here p h b.0 b.1) (λ o. ap (λ (c : Cell). c.state) (sym (e.outside p o)) ∙ ok.outside p h) (in_or_out (runs u) page p))
  where
    here : (p : ℕ) → ¬ IsPage p → slot_start (runs u) page ≤ p → p < slot_start (runs u) page + (cell_at (runs u) page).width
        → (cell_at (runs u) p).state ≡ no_state
    here p h a b =
        let at = part_of (runs u) (runs v) page p e a b in
        let none = sym (ap (λ (c : Cell). c.state) (ap (cell_at (runs v)) at.is ∙ e.inside at.k at.o at.k_in at.o_in)) ∙ ok.outside p h in
        ap (λ (c : Cell). c.state) (cell_of (runs u) page p a b) ∙ no_state_back (cell_at (runs u) page).state (at.k * e.part) none

pub folded-Joins : (v u : Parts) → IsRadix u → (page : ℕ) → page < 2 ^ 35 → IsPlain (cell_at (runs u) page).state
    → IsExpanded (runs u) (runs v) page → Joins (tree_slots v) (tree_slots u)
folded-Joins v u ok page l plain e =
    joins_back (tree_slots v) (tree_slots u) (slot_start (runs u) page + e.part)
    (subst (λ o. Divides (tree_slots u) (tree_slots v) o (slot_start (runs u) page + e.part)) plain.free
    (divides (runs u) (runs v) page e)) could
  where
    rs : List Run
    rs = runs u

    state : State
    state = (cell_at rs page).state

    -- what the pages of the slot have
    info : (p : ℕ) → slot_start rs page ≤ p → p < slot_start rs page + (cell_at rs page).width
        → (tree_slots v).info p ≡ info_from state.info (p - slot_start rs page)
    info p a b = info_kept rs (runs v) page e p ∙ ap (λ (c : Cell). info_from c.state.info c.offset) (cell_of rs page p a b)

    owner : (p : ℕ) → slot_start rs page ≤ p → p < slot_start rs page + (cell_at rs page).width → (tree_slots v).owner p ≡ None
    owner p a b = owner_kept rs (runs v) page e p ∙ (ap (λ (c : Cell). c.state.owner) (cell_of rs page p a b) ∙ plain.free)

    leaf : (p : ℕ) → slot_start rs page ≤ p → p < slot_start rs page + (cell_at rs page).width → is_leaf ((tree_slots v).info p) ≡ false
    leaf p a b = ap is_leaf (info p a b) ∙ (is_leaf-info_from state.info _ ∙ plain.no_leaf)

    inside : (p : ℕ) → slot_start rs page + 1 ≤ p → p < slot_start rs page + (cell_at rs page).width → CanBeOne (tree_slots v) p
    inside p a b =
        let limit = ends_by_limit u ok page l in
        let next : p - 1 - slot_start rs page + 1 ≡ p - slot_start rs page = omega arith in
        record {
          page = (omega arith, omega arith);
          free = owner (p - 1) (omega arith) (omega arith);
          next_free = owner p (omega arith) b;
          no_leaf = leaf (p - 1) (omega arith) (omega arith);
          next_no_leaf = leaf p (omega arith) b;
          goes_on = info p (omega arith) b
              ∙ (ap (info_from state.info) (sym next) ∙ (sym (info_from_twice state.info (p - 1 - slot_start rs page) 1)
              ∙ ap (λ o. info_from o 1) (sym (info (p - 1) (omega arith) (omega arith)))));
        }

    could : (p : ℕ) → (tree_slots v).edge p ≡ true → (tree_slots u).edge p ≡ false → CanBeOne (tree_slots v) p
    could p h f = ⊎_elim
        (λ (a : p < slot_start rs page + 1). absurd (two _ (outer_edge rs (runs v) page e p (inl a) ∙ f) h))
        (λ (a : slot_start rs page + 1 ≤ p). ⊎_elim
        (λ (b : p < slot_start rs page + (cell_at rs page).width). inside p a b)
        (λ (b : slot_start rs page + (cell_at rs page).width ≤ p). absurd (two _ (outer_edge rs (runs v) page e p (inr b) ∙ f) h))
        (cases_lt p (slot_start rs page + (cell_at rs page).width)))
        (cases_lt p (slot_start rs page + 1))

pub same_or_expanded : {X E : Type 0} {P Q R : Type 0} (r : Result X E) → (P → R) → (Q → R) → OnOk r P → OnErr r Q → R
same_or_expanded (Ok x) f g h k = f h
same_or_expanded (Err e) f g h k = g k

-- a slot that begins before the page has several pages
pub several : (rs : List Run) (page : ℕ) → (run_slots rs).edge page ≡ false → 1 < (cell_at rs page).width
several rs page h = let c = cell_in rs page in let inside = eq_false _ _ h in omega (arith, c.high)
