-- Lists of a node's pages that have a frame
use Rattle.slot_lock.proofs.Words.{Box, ◌≡◌, ℕ, ◌+◌, ◌-◌, ◌*◌, ◌<◌, ◌≤◌, List, [], ◌∷◌, ◌++◌, Some, None, get_or, sym, ◌∙◌, ap, subst, arith, frame_of}
use Rattle.slot_lock.specs.declared.framed.Framed.{Framed}
use Rattle.slot_lock.specs.Framed.{AddsFrames}
use Rattle.slot_lock.proofs.Listing.{adds_none, adds_one, adds_then, adds_same, framed_leaf}
use Rattle.radix_node.specs.declared.node.Node.{Node}
use Rattle.radix_node.specs.declared.node.Slot.{Slot}
use Rattle.radix_node.specs.declared.node.Slot.TheVariants.{Own as OwnSlot, Child}
use Rattle.radix_node.specs.declared.state.SlotState.{SlotState}
use Rattle.radix_node.specs.State.{state_of}
use Rattle.radix_node.specs.Run.{Run, Cell, cell_at, width_of, FitsWidth}
use Rattle.radix_node.specs.Node.{Parts, runs, flatten}
use Rattle.radix_node.specs.Slots.{parts_of, IsNode}
use Rattle.radix_node.specs.Walk.{frames_from}
use Rattle.radix_node.proofs.Flat.{whole-node, width_pos}
use Rattle.radix_node.proofs.Divided.{part_ends}
use Rattle.radix_node.proofs.Walks.{IsPart, reach, own_page, child_cell}

-- the pages of the range up to a page are listed
abbrev pub ListsTo : List Run → ℕ → ℕ → ℕ → ℕ → List Framed → List Framed → Type 0
ListsTo rs base first end upto old new = AddsFrames (frames_from base rs) (base + first) (base + reach first end upto) old new

-- ---- a slot that is no child

-- its pages have what its first has
own_frame : {A : Type 0} {level i : ℕ} {ss : List (Slot A)} (d : Slot A) (s : SlotState) (base p : ℕ)
    → IsNode level ss → i < 512 → OwnSlot s ≡ get_or ss i d
    → base + i * width_of level ≤ p → p < base + i * width_of level + width_of level
    → frames_from base (flatten (width_of level) (parts_of ss)) p ≡ frame_of (state_of s).info
own_frame d s base p n l is low high = ap (λ (c : Cell). frame_of c.state.info)
    (own_page d s n l is (p - base) (record { low = omega arith; high = omega arith }))

pub list_none : {A : Type 0} {level i : ℕ} {ss : List (Slot A)} (d : Slot A) (s : SlotState) (base first end : ℕ) (old new : List Framed)
    → IsNode level ss → i < 512 → OwnSlot s ≡ get_or ss i d
    → first < end → i * width_of level < end → first < i * width_of level + width_of level
    → frame_of (state_of s).info ≡ None
    → ListsTo (flatten (width_of level) (parts_of ss)) base first end (i * width_of level) old new
    → ListsTo (flatten (width_of level) (parts_of ss)) base first end ((i + 1) * width_of level) old new
list_none {level = level} {i = i} {ss = ss} d s base first end old new n l is some low past none h =
    adds_then _ (base + first) (base + reach first end (i * width_of level)) (base + reach first end ((i + 1) * width_of level)) old new
    new (omega arith) (omega arith) h
    (adds_none _ _ _ new (λ p a b. own_frame d s base p n l is (omega arith) (omega arith) ∙ none))

-- one with a frame is one page of the range
pub record IsOne (level i first end : ℕ) : Type 0 where
  pub wide : width_of level ≡ 1
  pub low : first ≤ i * width_of level
  pub reached : reach first end (i * width_of level) ≡ i * width_of level

pub is_one : {A : Type 0} {level i f : ℕ} {ss : List (Slot A)} (d : Slot A) (s : SlotState) (first end : ℕ)
    → IsNode level ss → i < 512 → OwnSlot s ≡ get_or ss i d
    → i * width_of level < end → first < i * width_of level + width_of level
    → frame_of (state_of s).info ≡ Some f
    → IsOne level i first end
is_one {level = level} {i = i} {f = f} {ss = ss} d s first end n l is low past had =
    let pos = width_pos level in
    let c = (whole-node level ss n).cells (i * width_of level) (let q = part_ends (width_of level) i l in omega arith) in
    let sound =
    subst (λ (c : Cell). FitsWidth c.width c.state)
    (own_page d s n l is (i * width_of level) (record { low = omega arith; high = omega arith }))
    c.sound in
    let wide = sound.alone (framed_leaf (state_of s).info f had) in
    record { wide = wide; low = omega arith; reached = omega arith }

pub list_one : {A : Type 0} {level i f : ℕ} {ss : List (Slot A)} (d : Slot A) (s : SlotState) (base first end : ℕ) (old new : List Framed)
    → IsNode level ss → i < 512 → OwnSlot s ≡ get_or ss i d
    → i * width_of level < end → first < i * width_of level + width_of level
    → frame_of (state_of s).info ≡ Some f
    → ListsTo (flatten (width_of level) (parts_of ss)) base first end (i * width_of level) old new
    → ListsTo (flatten (width_of level) (parts_of ss)) base first end ((i + 1) * width_of level) old
    (new ++ (record { page = base + i * width_of level; frame = f }) ∷ [])
list_one {level = level} {i = i} {f = f} {ss = ss} d s base first end old new n l is low past had h =
    let one = is_one d s first end n l is low past had in
    let wide = one.wide in
    let from = one.low in
    let to : base + i * width_of level + 1 ≡ base + reach first end ((i + 1) * width_of level) = omega arith in
    subst (λ m. AddsFrames (frames_from base (flatten (width_of level) (parts_of ss))) (base + first) m old
    (new ++ (record { page = base + i * width_of level; frame = f }) ∷ [])) to
    (adds_then _ (base + first) (base + i * width_of level) (base + i * width_of level + 1) old new _ (omega arith) (omega arith)
    (subst (λ m. AddsFrames (frames_from base (flatten (width_of level) (parts_of ss))) (base + first) (base + m) old new) one.reached h)
    (adds_one _ (base + i * width_of level) f new (own_frame d s base (base + i * width_of level) n l is (omega arith) (omega arith) ∙ had)))

-- it has no room any more
pub list_full : {A : Type 0} {level i f : ℕ} {ss : List (Slot A)} (d : Slot A) (s : SlotState) (base first end : ℕ) (old new : List Framed)
    → IsNode level ss → i < 512 → OwnSlot s ≡ get_or ss i d
    → i * width_of level < end → first < i * width_of level + width_of level
    → frame_of (state_of s).info ≡ Some f
    → ListsTo (flatten (width_of level) (parts_of ss)) base first end (i * width_of level) old new
    → AddsFrames (frames_from base (flatten (width_of level) (parts_of ss))) (base + first) (base + i * width_of level) old new
list_full {level = level} {i = i} {f = f} {ss = ss} d s base first end old new n l is low past had h =
    subst (λ m. AddsFrames (frames_from base (flatten (width_of level) (parts_of ss))) (base + first) (base + m) old new)
    (is_one d s first end n l is low past had).reached h

-- ---- a child

-- what a walk of the child adds
pub list_below : {A : Type 0} {level i : ℕ} {ss : List (Slot A)} (d : Slot A) (b : Box (Node A) A) (v : Parts)
    (base first end lo hi upto : ℕ) (old mid new : List Framed)
    → IsNode level ss → i < 512 → Child b ≡ get_or ss i d
    → v ≡ b.value → IsPart first end (i * width_of level) (width_of level) lo hi
    → first < end → i * width_of level < end → first < i * width_of level + width_of level
    → base + i * width_of level + lo ≤ upto → upto ≤ base + i * width_of level + hi
    → AddsFrames (frames_from (base + i * width_of level) (runs v)) (base + i * width_of level + lo) upto mid new
    → ListsTo (flatten (width_of level) (parts_of ss)) base first end (i * width_of level) old mid
    → AddsFrames (frames_from base (flatten (width_of level) (parts_of ss))) (base + first) upto old new
list_below {level = level} {i = i} {ss = ss} d b v base first end lo hi upto old mid new n l is same part some low past from by more h =
    let at : base + reach first end (i * width_of level) ≡ base + i * width_of level + lo = omega (arith, part.first_is) in
    adds_then _ (base + first) (base + i * width_of level + lo) upto old mid new (omega (arith, part.first_is)) from
    (subst (λ m. AddsFrames (frames_from base (flatten (width_of level) (parts_of ss))) (base + first) m old mid) at h)
    (adds_same _ _ _ _ mid new (λ p a c. here p a (omega arith)) more)
  where
    here : (p : ℕ) → base + i * width_of level + lo ≤ p → p < base + i * width_of level + hi
        → frames_from (base + i * width_of level) (runs v) p ≡ frames_from base (flatten (width_of level) (parts_of ss)) p
    here p a c =
        let k : i * width_of level + (p - (base + i * width_of level)) ≡ p - base = omega arith in
        ap (λ (c : Cell). frame_of c.state.info)
        (sym (child_cell {q = p - (base + i * width_of level)} d b v n l is same part (omega arith)) ∙ ap (cell_at (flatten (width_of level) (parts_of ss))) k)

pub list_child : {A : Type 0} {level i : ℕ} {ss : List (Slot A)} (d : Slot A) (b : Box (Node A) A) (v : Parts)
    (base first end lo hi upto : ℕ) (old mid new : List Framed)
    → IsNode level ss → i < 512 → Child b ≡ get_or ss i d
    → v ≡ b.value → IsPart first end (i * width_of level) (width_of level) lo hi
    → first < end → i * width_of level < end → first < i * width_of level + width_of level
    → base + i * width_of level + lo ≤ upto → upto ≤ base + i * width_of level + hi → base + i * width_of level + hi ≤ upto
    → AddsFrames (frames_from (base + i * width_of level) (runs v)) (base + i * width_of level + lo) upto mid new
    → ListsTo (flatten (width_of level) (parts_of ss)) base first end (i * width_of level) old mid
    → ListsTo (flatten (width_of level) (parts_of ss)) base first end ((i + 1) * width_of level) old new
list_child {level = level} {i = i} {ss = ss} d b v base first end lo hi upto old mid new n l is same part some low past from by done more h =
    let to : upto ≡ base + reach first end ((i + 1) * width_of level) = omega (arith, part.end_is) in
    subst (λ m. AddsFrames (frames_from base (flatten (width_of level) (parts_of ss))) (base + first) m old new) to
    (list_below d b v base first end lo hi upto old mid new n l is same part some low past from by more h)
