-- A change of a range of a node's pages
use Rattle.slot_lock.proofs.Words.{Box, ◌≡◌, ◌≢◌, ℕ, ◌+◌, ◌-◌, ◌*◌, ◌<◌, ◌≤◌, ◌⊎◌, inl, inr, ⊎_elim, None, List, get_or, refl, sym, ap, ◌∙◌, subst, arith}
use Rattle.slot_lock.proofs.Words.{cases_lt, get_or-set_same, length-map, All-get_or}
use Rattle.std.proofs.Math.ListN.{set}
use Rattle.std.proofs.lemmas.List.{get_or-set_other}
use Rattle.radix_node.specs.declared.edit.Edit.{Edit}
use Rattle.radix_node.specs.declared.edit.Edit.TheVariants.{Put, Protect}
use Rattle.radix_node.specs.declared.node.Node.{Node}
use Rattle.radix_node.specs.declared.node.Slot.{Slot}
use Rattle.radix_node.specs.declared.node.Slot.TheVariants.{Own as OwnSlot, Child}
use Rattle.radix_node.specs.declared.state.SlotState.{SlotState}
use Rattle.radix_node.specs.State.{State, state_of}
use Rattle.radix_node.specs.Run.{Run, Cell, cell_at, width_of, FitsWidth, IsWhole}
use Rattle.radix_node.specs.Node.{Parts, IsSoundPart, runs, flatten}
use Rattle.radix_node.specs.Slots.{part_of, parts_of, IsNode}
use Rattle.radix_node.specs.Edit.{CanEdit, edited, edited_cell}
use Rattle.radix_node.proofs.Runs.{cell_at-past}
use Rattle.radix_node.proofs.Flat.{width_pos, place_index, part_at, cell_at-part, IsPlace, whole-node, is_node-set, child_node}
use Rattle.radix_node.proofs.Divided.{part_ends}
use Rattle.radix_node.proofs.Walks.{IsOf, IsPart, own_page, child_page}
use Rattle.slot_lock.proofs.ListLaws.{file_page_on, is_leaf-info_from}
use Rattle.slot_lock.proofs.Changes.{prot_fits, prot_leaf}

-- ---- what a changed slot can have

pub edited_sound : (edit : Edit) (n by width : ℕ) (s : State) → CanEdit edit n → by + width ≤ n
    → 0 < width → FitsWidth width s → FitsWidth width (edited edit by s)
edited_sound (Put info) n by width s can l pos h = record {
  fits = omega (arith, file_page_on info by, can.fits);
  alone = λ leaf. let one = can.alone (sym (is_leaf-info_from info by) ∙ leaf) in omega arith;
}
edited_sound (Protect prot) n by width s can l pos h = record {
  fits = rw (prot_fits prot s.info) h.fits;
  alone = λ leaf. h.alone (prot_leaf prot s.info leaf);
}

-- a change can be made of fewer pages
pub can_fewer : (edit : Edit) (n m : ℕ) → CanEdit edit n → m ≤ n → 0 < m → CanEdit edit m
can_fewer (Put info) n m can l pos = record {
  fits = omega (arith, can.fits);
  alone = λ leaf. let one = can.alone leaf in omega arith;
}
can_fewer (Protect prot) n m can l pos = tt

-- ---- a written slot

-- a page of another slot stays
pub other_page : {A : Type 0} {level : ℕ} {ss : List (Slot A)} (i : ℕ) (d t : Slot A)
    → IsNode level ss → IsNode level (set ss i t) → (p : ℕ)
    → (p < i * width_of level) ⊎ (i * width_of level + width_of level ≤ p)
    → cell_at (flatten (width_of level) (parts_of (set ss i t))) p ≡ cell_at (flatten (width_of level) (parts_of ss)) p
other_page {level = level} {ss = ss} i d t n m p out = ⊎_elim
    (λ (l : p < 512 * width_of level). here l)
    (λ (l : 512 * width_of level ≤ p). cell_at-past _ p (let w = whole-node level (set ss i t) m in omega (arith, w.pages_are))
    ∙ sym (cell_at-past _ p (let w = whole-node level ss n in omega (arith, w.pages_are))))
    (cases_lt p (512 * width_of level))
  where
    apart : (j : ℕ) → j * width_of level ≤ p → p < j * width_of level + width_of level → j ≢ i
    apart j a b e = ⊎_elim
        (λ (x : p < i * width_of level). let q = ap (λ n. n * width_of level) e in omega arith)
        (λ (x : i * width_of level + width_of level ≤ p). let q = ap (λ n. n * width_of level) e in omega arith)
        out

    here : p < 512 * width_of level
        → cell_at (flatten (width_of level) (parts_of (set ss i t))) p ≡ cell_at (flatten (width_of level) (parts_of ss)) p
    here l =
        let at = place_index (width_of level) p (width_pos level) l in
        let place : IsPlace level p at.0 (p - at.0 * width_of level) =
        record { slot_in = at.1; page_is = omega (arith, at.2); rest_in = omega (arith, at.2, at.3) } in
        let same = get_or-set_other ss i at.0 t d (apart at.0 at.2 at.3) in
        cell_at-part d (get_or ss at.0 d) m place (sym same)
        ∙ sym (cell_at-part d (get_or ss at.0 d) n place refl)

-- ---- the pages that are changed

-- the range's pages up to one are changed, and all others are as before
pub record Edits (old new : List Run) (first end by : ℕ) (edit : Edit) (upto : ℕ) : Type 0 where
  pub inside : (p : ℕ) → first ≤ p → p < end → p < upto
      → cell_at new p ≡ edited_cell edit (by + (p - first)) (cell_at old p)
  pub outside : (p : ℕ) → (p < first) ⊎ (end ≤ p) → cell_at new p ≡ cell_at old p
  pub after : (p : ℕ) → upto ≤ p → cell_at new p ≡ cell_at old p

pub edits_none : (rs : List Run) (first end by : ℕ) (edit : Edit) (upto : ℕ) → upto ≤ first
    → Edits rs rs first end by edit upto
edits_none rs first end by edit upto l = record {
  inside = λ p a b c. absurd (omega arith);
  outside = λ p o. refl;
  after = λ p a. refl;
}

-- the pages of one slot more
edits_more : {A : Type 0} {level i : ℕ} {ss : List (Slot A)} (d t : Slot A) (old : List Run) (first end by : ℕ) (edit : Edit)
    → IsNode level ss → IsNode level (set ss i t)
    → first < i * width_of level + width_of level
    → Edits old (flatten (width_of level) (parts_of ss)) first end by edit (i * width_of level)
    → ((p : ℕ) → IsOf level i p → first ≤ p → p < end → cell_at (flatten (width_of level) (parts_of (set ss i t))) p ≡ edited_cell edit
    (by + (p - first)) (cell_at (flatten (width_of level) (parts_of ss)) p))
    → ((p : ℕ) → IsOf level i p → (p < first) ⊎ (end ≤ p) → cell_at (flatten (width_of level) (parts_of (set ss i t))) p ≡ cell_at
    (flatten (width_of level) (parts_of ss)) p)
    → Edits old (flatten (width_of level) (parts_of (set ss i t))) first end by edit ((i + 1) * width_of level)
edits_more {level = level} {i = i} {ss = ss} d t old first end by edit n m past h inside outside =
    record {
      inside = λ p a b c. ⊎_elim
          (λ (x : p < i * width_of level). other_page i d t n m p (inl x) ∙ h.inside p a b x)
          (λ (x : i * width_of level ≤ p). inside p (record { low = x; high = omega arith }) a b ∙ ap (edited_cell edit (by + (p - first))) (h.after p x))
          (cases_lt p (i * width_of level));
      outside = λ p o. ⊎_elim
          (λ (x : p < i * width_of level). other_page i d t n m p (inl x) ∙ h.outside p o)
          (λ (x : i * width_of level ≤ p). ⊎_elim
          (λ (y : p < i * width_of level + width_of level). outside p (record { low = x; high = y }) o ∙ h.outside p o)
          (λ (y : i * width_of level + width_of level ≤ p). other_page i d t n m p (inr y) ∙ h.outside p o)
          (cases_lt p (i * width_of level + width_of level)))
          (cases_lt p (i * width_of level));
      after = λ p a. let pos = width_pos level in other_page i d t n m p (inr (omega arith))
          ∙ h.after p (omega arith);
    }

-- a slot lies in the range, where no slot crosses the range's edges
pub record Within (level i first end : ℕ) : Type 0 where
  pub low : first ≤ i * width_of level
  pub high : i * width_of level + width_of level ≤ end

pub own_within : {A : Type 0} {level i : ℕ} {ss : List (Slot A)} (d : Slot A) (s : SlotState) (old : List Run) (first end by : ℕ) (edit : Edit)
    → IsNode level ss → i < 512 → OwnSlot s ≡ get_or ss i d
    → i * width_of level < end → first < i * width_of level + width_of level
    → (cell_at old first).offset ≡ 0 → (cell_at old end).offset ≡ 0
    → Edits old (flatten (width_of level) (parts_of ss)) first end by edit (i * width_of level)
    → Within level i first end
own_within {level = level} {i = i} d s old first end by edit n l is low past begins ends h =
    record {
      low = ⊎_elim
          (λ (x : i * width_of level < first).
          let e =
          ap (λ (c : Cell). c.offset)
          (sym (h.after first (omega arith)) ∙ own_page d s n l is first
          (record { low = omega arith; high = past }))
          in
          absurd (omega (arith, e, begins)))
          (λ (x : first ≤ i * width_of level). x)
          (cases_lt (i * width_of level) first);
      high = ⊎_elim
          (λ (x : end < i * width_of level + width_of level).
          let e =
          ap (λ (c : Cell). c.offset)
          (sym (h.after end (omega arith)) ∙ own_page d s n l is end
          (record { low = omega arith; high = x }))
          in
          absurd (omega (arith, e, ends)))
          (λ (x : i * width_of level + width_of level ≤ end). x)
          (cases_lt end (i * width_of level + width_of level));
    }

pub own_node : {A : Type 0} {level i : ℕ} {ss : List (Slot A)} (d : Slot A) (s t : SlotState) (first end by past : ℕ) (edit : Edit)
    → IsNode level ss → i < 512 → OwnSlot s ≡ get_or ss i d
    → Within level i first end → CanEdit edit (by + (end - first))
    → past ≡ by + (i * width_of level - first) → state_of t ≡ edited edit past (state_of s)
    → IsNode level (set ss i (OwnSlot t))
own_node {level = level} {i = i} {ss = ss} d s t first end by past edit n l is w can e is_t =
    let pos = width_pos level in
    let c =
    (whole-node level ss n).cells (i * width_of level)
    (let q = part_ends (width_of level) i l in omega arith) in
    let sound =
    subst (λ (c : Cell). FitsWidth c.width c.state)
    (own_page d s n l is (i * width_of level) (record { low = omega arith; high = omega arith }))
    c.sound in
    is_node-set level i ss (OwnSlot t) n tt
    (subst (FitsWidth (width_of level)) (sym is_t)
    (edited_sound edit (by + (end - first)) past (width_of level) (state_of s) can
    (omega (arith, w.low, w.high)) pos sound))

pub edits_own : {A : Type 0} {level i : ℕ} {ss : List (Slot A)} (d : Slot A) (s t : SlotState) (old : List Run) (first end by past : ℕ) (edit : Edit)
    → IsNode level ss → IsNode level (set ss i (OwnSlot t)) → i < 512 → OwnSlot s ≡ get_or ss i d
    → first < i * width_of level + width_of level → Within level i first end
    → past ≡ by + (i * width_of level - first) → state_of t ≡ edited edit past (state_of s)
    → Edits old (flatten (width_of level) (parts_of ss)) first end by edit (i * width_of level)
    → Edits old (flatten (width_of level) (parts_of (set ss i (OwnSlot t)))) first end by edit ((i + 1) * width_of level)
edits_own {level = level} {i = i} {ss = ss} d s t old first end by past edit n m l is before w e is_t h =
    let full = n.full in
    let there = sym (get_or-set_same ss i (OwnSlot t) d (omega arith)) in
    edits_more d (OwnSlot t) old first end by edit n m before h
    (λ p o a b.
    let k : past ≡ by + (p - first) - (p - i * width_of level) = omega (arith, e, w.low, o.low) in
    own_page d t m l there p o
    ∙ ap
    (λ (s : State). record { state = s; offset = p - i * width_of level; width = width_of level })
    (is_t ∙ ap (λ n. edited edit n (state_of s)) k)
    ∙ ap (edited_cell edit (by + (p - first))) (sym (own_page d s n l is p o)))
    (λ p o x. absurd (⊎_elim (λ (y : p < first). omega (arith, o.low, w.low)) (λ (y : end ≤ p). omega (arith, o.high, w.high)) x))

pub edits_child : {A : Type 0} {level i : ℕ} {ss : List (Slot A)} (d : Slot A) (b c : Box (Node A) A) (v : Parts) (old : List Run)
    (first end lo hi by past : ℕ) (edit : Edit)
    → IsNode level ss → IsNode level (set ss i (Child c)) → i < 512 → Child b ≡ get_or ss i d
    → v ≡ b.value → first < i * width_of level + width_of level
    → IsPart first end (i * width_of level) (width_of level) lo hi
    → past ≡ by + (i * width_of level + lo - first)
    → ((q : ℕ) → lo ≤ q → q < hi → cell_at (runs c.value) q ≡ edited_cell edit (past + (q - lo)) (cell_at (runs v) q))
    → ((q : ℕ) → (q < lo) ⊎ (hi ≤ q) → cell_at (runs c.value) q ≡ cell_at (runs v) q)
    → Edits old (flatten (width_of level) (parts_of ss)) first end by edit (i * width_of level)
    → Edits old (flatten (width_of level) (parts_of (set ss i (Child c)))) first end by edit ((i + 1) * width_of level)
edits_child {level = level} {i = i} {ss = ss} d b c v old first end lo hi by past edit n m l is same before part e inside outside h =
    let full = n.full in
    let there = sym (get_or-set_same ss i (Child c) d (omega arith)) in
    let was : (p : ℕ) → IsOf level i p → cell_at (runs v) (p - i * width_of level) ≡ cell_at (flatten (width_of level) (parts_of ss)) p
    = λ p o. ap (λ v. cell_at (runs v) (p - i * width_of level)) same
    ∙ sym (child_page d b n l is p o) in
    edits_more d (Child c) old first end by edit n m before h
    (λ p o a x.
    let k : past + (p - i * width_of level - lo) ≡ by + (p - first) =
    omega (arith, e, o.low, part.first_is) in
    child_page d c m l there p o
    ∙ inside (p - i * width_of level) (omega (arith, o.low, part.first_is))
    (omega (arith, o.low, o.high, part.end_is))
    ∙ ap (λ n. edited_cell edit n (cell_at (runs v) (p - i * width_of level))) k
    ∙ ap (edited_cell edit (by + (p - first))) (was p o))
    (λ p o x. child_page d c m l there p o
    ∙ outside (p - i * width_of level)
    (⊎_elim (λ (y : p < first). inl (omega (arith, o.low, part.first_is)))
    (λ (y : end ≤ p). inr (omega (arith, o.low, part.end_is))) x)
    ∙ was p o)

-- ---- the part of a range that a child has

child_whole : {A : Type 0} {level i : ℕ} {ss : List (Slot A)} (d : Slot A) (b : Box (Node A) A)
    → IsNode level ss → i < 512 → Child b ≡ get_or ss i d
    → IsWhole (level - 1) (width_of level) (runs b.value)
child_whole {level = level} {i = i} {ss = ss} d b n l is =
    let len = length-map ss part_of in
    subst (IsSoundPart level) (part_at d (Child b) n l is)
    (All-get_or (IsSoundPart level) (parts_of ss) i (part_of d) (let full = n.full in omega arith)
    n.fit)

pub child_begins : {A : Type 0} {level i : ℕ} {ss : List (Slot A)} (d : Slot A) (b : Box (Node A) A) (v : Parts) (old : List Run)
    (first end lo hi by : ℕ) (edit : Edit)
    → IsNode level ss → i < 512 → Child b ≡ get_or ss i d
    → v ≡ b.value → IsPart first end (i * width_of level) (width_of level) lo hi → lo < hi
    → (cell_at old first).offset ≡ 0
    → Edits old (flatten (width_of level) (parts_of ss)) first end by edit (i * width_of level)
    → (cell_at (runs v) lo).offset ≡ 0
child_begins {level = level} {i = i} d b v old first end lo hi by edit n l is same part order begins h =
    ⊎_elim
    (λ (x : i * width_of level < first).
    let k : first - i * width_of level ≡ lo = omega (arith, part.first_is) in
    let q =
    sym
    (child_page d b n l is first
    (record { low = omega arith; high = omega (arith, part.first_is, part.end_is) }))
    ∙ h.after first (omega arith) in
    ap (λ (v : Parts). (cell_at (runs v) lo).offset) same
    ∙ ap (λ n. (cell_at (runs b.value) n).offset) (sym k) ∙ ap (λ (c : Cell). c.offset) q ∙ begins)
    (λ (x : first ≤ i * width_of level).
    let k : lo ≡ 0 = omega (arith, part.first_is) in
    let c = (child_whole d b n l is).cells 0 (width_pos level) in
    ap (λ (v : Parts). (cell_at (runs v) lo).offset) same
    ∙ ap (λ n. (cell_at (runs b.value) n).offset) k ∙ (let place = c.place in omega arith))
    (cases_lt (i * width_of level) first)

pub child_ends : {A : Type 0} {level i : ℕ} {ss : List (Slot A)} (d : Slot A) (b : Box (Node A) A) (v : Parts) (old : List Run)
    (first end lo hi by : ℕ) (edit : Edit)
    → IsNode level ss → i < 512 → Child b ≡ get_or ss i d
    → v ≡ b.value → IsPart first end (i * width_of level) (width_of level) lo hi → lo < hi
    → (cell_at old end).offset ≡ 0
    → Edits old (flatten (width_of level) (parts_of ss)) first end by edit (i * width_of level)
    → (cell_at (runs v) hi).offset ≡ 0
child_ends {level = level} {i = i} d b v old first end lo hi by edit n l is same part order ends h =
    ⊎_elim
    (λ (x : end < i * width_of level + width_of level).
    let k : end - i * width_of level ≡ hi = omega (arith, part.end_is) in
    let q =
    sym (child_page d b n l is end (record { low = omega (arith, part.end_is); high = x }))
    ∙ h.after end (omega (arith, part.end_is)) in
    ap (λ (v : Parts). (cell_at (runs v) hi).offset) same
    ∙ ap (λ n. (cell_at (runs b.value) n).offset) (sym k) ∙ ap (λ (c : Cell). c.offset) q ∙ ends)
    (λ (x : i * width_of level + width_of level ≤ end).
    let pages = (child_whole d b n l is).pages_are in
    ap (λ (v : Parts). (cell_at (runs v) hi).offset) same
    ∙ ap (λ (c : Cell). c.offset)
    (cell_at-past (runs b.value) hi (omega (arith, pages, part.end_is))))
    (cases_lt end (i * width_of level + width_of level))

-- ---- a range that one slot has

-- the slot with this number is written, and the range's pages are changed
pub record Narrow {A : Type 0} (level : ℕ) (ss ts : List (Slot A)) (first end by : ℕ) (edit : Edit) : Type 0 where
  pub last : ℕ
  pub node : IsNode level ts
  pub edits : Edits (flatten (width_of level) (parts_of ss)) (flatten (width_of level) (parts_of ts)) first end by edit last
  pub by_end : end ≤ last

-- the range lies in the slot that has its first page
pub record InSlot (level first end i rest : ℕ) : Type 0 where
  pub place : IsPlace level first i rest
  pub some : first < end
  pub short : end - first ≤ width_of level - rest

none_yet : {level first end i rest : ℕ} (rs : List Run) (by : ℕ) (edit : Edit)
    → InSlot level first end i rest
    → Edits rs rs first end by edit (i * width_of level)
none_yet rs by edit h = edits_none rs _ _ by edit _ (omega (arith, h.place.page_is))

pub own_narrow : {A : Type 0} {level first end i rest : ℕ} {ss : List (Slot A)} (d : Slot A) (s t : SlotState) (by : ℕ) (edit : Edit)
    → IsNode level ss → InSlot level first end i rest → OwnSlot s ≡ get_or ss i d
    → (cell_at (flatten (width_of level) (parts_of ss)) first).offset ≡ 0
    → (cell_at (flatten (width_of level) (parts_of ss)) end).offset ≡ 0
    → CanEdit edit (by + (end - first)) → state_of t ≡ edited edit by (state_of s)
    → Narrow level ss (set ss i (OwnSlot t)) first end by edit
own_narrow {level = level} {first = first} {end = end} {i = i} {ss = ss} d s t by edit n h is begins ends can is_t =
    let rs = flatten (width_of level) (parts_of ss) in
    let none = none_yet rs by edit h in
    let low : i * width_of level < end = omega (arith, h.place.page_is, h.some) in
    let past : first < i * width_of level + width_of level =
    omega (arith, h.place.page_is, h.place.rest_in) in
    let inside =
    own_within d s rs first end by edit n h.place.slot_in is low past begins ends none in
    let e : by ≡ by + (i * width_of level - first) = omega (arith, h.place.page_is) in
    let node = own_node d s t first end by by edit n h.place.slot_in is inside can e is_t in
    record {
      last = (i + 1) * width_of level;
      node = node;
      edits = edits_own d s t rs first end by by edit n node h.place.slot_in is past inside e is_t none;
      by_end = omega (arith, h.place.page_is, h.place.rest_in, h.short);
    }

part_of_slot : {level first end i rest : ℕ} → InSlot level first end i rest
    → IsPart first end (i * width_of level) (width_of level) rest (rest + (end - first))
part_of_slot h = record {
  first_is = omega (arith, h.place.page_is);
  end_is = omega (arith, h.place.page_is, h.place.rest_in, h.short, h.some);
}

-- no slot of the child crosses the edges of the range
pub record Uncrossed (rs : List Run) (first end : ℕ) : Type 0 where
  pub begins : (cell_at rs first).offset ≡ 0
  pub ends : (cell_at rs end).offset ≡ 0

pub child_uncrossed : {A : Type 0} {level first end i rest : ℕ} {ss : List (Slot A)} (d : Slot A) (b : Box (Node A) A) (v : Parts)
    → IsNode level ss → InSlot level first end i rest → Child b ≡ get_or ss i d → v ≡ b.value
    → (cell_at (flatten (width_of level) (parts_of ss)) first).offset ≡ 0
    → (cell_at (flatten (width_of level) (parts_of ss)) end).offset ≡ 0
    → Uncrossed (runs v) rest (rest + (end - first))
child_uncrossed {level = level} {first = first} {end = end} {rest = rest} {ss = ss} d b v n h is same begins ends =
    let rs = flatten (width_of level) (parts_of ss) in
    let none = none_yet rs 0 (Put None) h in
    let order : rest < rest + (end - first) = omega (arith, h.some) in
    record {
      begins = child_begins d b v rs first end rest (rest + (end - first)) 0 (Put None) n h.place.slot_in is same (part_of_slot h) order begins none;
      ends = child_ends d b v rs first end rest (rest + (end - first)) 0 (Put None) n h.place.slot_in is same (part_of_slot h) order ends none;
    }

pub child_narrow : {A : Type 0} {level first end i rest : ℕ} {ss : List (Slot A)} (d : Slot A) (b c : Box (Node A) A) (v : Parts) (by : ℕ) (edit : Edit)
    → IsNode level ss → InSlot level first end i rest → Child b ≡ get_or ss i d → v ≡ b.value
    → c.value.level ≡ v.level → IsWhole c.value.level (512 * width_of c.value.level) (runs c.value)
    → ((q : ℕ) → rest ≤ q → q < rest + (end - first) → cell_at (runs c.value) q ≡ edited_cell edit (by + (q - rest)) (cell_at (runs v) q))
    → ((q : ℕ) → (q < rest) ⊎ (rest + (end - first) ≤ q) → cell_at (runs c.value) q ≡ cell_at (runs v) q)
    → Narrow level ss (set ss i (Child c)) first end by edit
child_narrow {level = level} {first = first} {end = end} {i = i} {rest = rest} {ss = ss} d b c v by edit n h is same lev whole inside outside =
    let rs = flatten (width_of level) (parts_of ss) in
    let past : first < i * width_of level + width_of level =
    omega (arith, h.place.page_is, h.place.rest_in) in
    let e : by ≡ by + (i * width_of level + rest - first) = omega (arith, h.place.page_is) in
    let node = child_node d b c v n h.place.slot_in is same lev whole in
    record {
      last = (i + 1) * width_of level;
      node = node;
      edits = edits_child d b c v rs first end rest (rest + (end - first)) by by edit n node h.place.slot_in is same past
          (part_of_slot h) e inside outside (none_yet rs by edit h);
      by_end = omega (arith, h.place.page_is, h.place.rest_in, h.short);
    }
