-- 512 slots as one
use Rattle.slot_lock.proofs.Words.{Box, ◌≡◌, ℕ, ◌+◌, ◌-◌, ◌*◌, ◌^◌, ◌<◌, ◌≤◌, List, [], length, zero, suc, get_or, refl, sym, ap, ◌∙◌, subst, arith, All}
use Rattle.slot_lock.proofs.Words.{mul-le-mul_right, length-map, get_or-map, info_file_page}
use Rattle.std.specs.List.{range_with_len}
use Rattle.std.proofs.lemmas.Nat.{pow_pos}
use Rattle.std.proofs.lemmas.List.{ext_get_or}
use Rattle.std.proofs.lemmas.List.Elements.{All-map}
use Rattle.std.proofs.lemmas.List.FromFn.{get_or-map-range_with_len, length-map-range_with_len}
use Rattle.radix_node.specs.declared.node.Node.{Node}
use Rattle.radix_node.specs.declared.node.Slot.{Slot}
use Rattle.radix_node.specs.declared.node.Slot.TheVariants.{Own as OwnSlot, Child}
use Rattle.radix_node.specs.declared.state.SlotState.{SlotState}
use Rattle.radix_node.specs.State.{State, state_of, state_from, IsPlain}
use Rattle.radix_node.specs.Run.{Run, Cell, total, cell_at, width_of, level_of, divided, IsCarried, FitsWidth}
use Rattle.radix_node.specs.Node.{Part, Own, Below, runs, runs_of, flatten, owns, owns_divided, IsSoundPart}
use Rattle.radix_node.specs.Slots.{part_of, parts_of, IsLower, IsNode}
use Rattle.radix_node.proofs.Runs.{cell_at-here}
use Rattle.radix_node.proofs.Flat.{IsWide, total-flatten, cell_at-flatten, cell_at-part, IsPlace, part_at, width_pos, width-times, width-below}
use Rattle.radix_node.proofs.Divided.{runs-divided, owns-divided}
use Rattle.slot_lock.proofs.Facts.{two}
use Rattle.slot_lock.proofs.ListLaws.{info_from_zero, fits_before}

-- ---- what one slot carries on

pub from_first : (s : State) (w : ℕ) → state_from s (0 * w) ≡ s
from_first s w = let z : 0 * w ≡ 0 = omega arith in ap (state_from s) z ∙ ap (λ o. record { info = o; owner = s.owner }) (info_from_zero s.info)

-- the slot of each page of what one slot carries on
pub cell_at-divided : (w k o page : ℕ) (s : State) → k < 512 → o < w → page ≡ k * w + o
    → cell_at (divided w s) page ≡ record { state = state_from s (k * w); offset = o; width = w }
unfolding owns_divided
cell_at-divided w k o page s l h e =
    let q : ℕ → Part = λ k. Own (state_from s (k * w)) in
    let d : Part = Below [] in
    let len = length-map-range_with_len q 0 512 in
    let wide : All (IsWide w) (owns w s 512) = All-map (IsWide w) q (range_with_len 0 512) (λ k. omega arith) in
    ap (λ rs. cell_at rs page) (sym (runs-divided w s))
    ∙ cell_at-flatten w (owns w s 512) k d page o wide (omega arith) e h
    ∙ ap (λ x. cell_at (runs_of w x) o) (get_or-map-range_with_len q 0 512 k k d l (omega arith))
    ∙ cell_at-here (record { width = w; state = state_from s (k * w) }) [] o h

-- ---- a node that is what one slot carries on

pub narrower : (a b : ℕ) → a + 1 ≤ b → width_of a < width_of b
narrower a b h =
    let t : width_of (a + 1) ≡ 512 * width_of a = sym (width-below a (a + 1) refl) in
    let m : ℕ = 2 ^ (9 * (b - (a + 1))) in
    let e : width_of b ≡ m * width_of (a + 1) = width-times (a + 1) b h in
    let pos : 0 < m = pow_pos (9 * (b - (a + 1))) in
    let up : 1 * width_of (a + 1) ≤ m * width_of (a + 1) = mul-le-mul_right (width_of (a + 1)) (let q : 1 ≤ m = omega arith in q) in
    let some = width_pos a in
    omega arith

own_cell : {A : Type 0} (level : ℕ) (x : Slot A) (c : Cell) → IsLower level x → IsSoundPart level (part_of x)
    → cell_at (runs_of (width_of level) (part_of x)) 0 ≡ c → c.width ≡ width_of level → part_of x ≡ Own c.state
own_cell level (OwnSlot s) c lower h e w = ap (λ (c : Cell). Own c.state)
    (sym (cell_at-here (record { width = width_of level; state = state_of s }) [] 0 (width_pos level)) ∙ e)
own_cell level (Child b) c lower h e w =
    let cell = h.cells 0 (width_pos level) in
    let l = narrower (level_of (cell_at (runs b.value) 0).width) level (omega (arith, cell.low, lower)) in
    let width : (cell_at (runs b.value) 0).width ≡ width_of level = ap (λ (c : Cell). c.width) e ∙ w in
    absurd (omega (arith, cell.width_is))

pub divided_slot : {A : Type 0} (level : ℕ) (ss : List (Slot A)) (s : State) → IsNode level ss
    → IsCarried (width_of level) s (flatten (width_of level) (parts_of ss)) → (k : ℕ) (d : Slot A) → k < 512
    → part_of (get_or ss k d) ≡ Own (state_from s (k * width_of level))
divided_slot level ss s n e k d l =
    let at : IsPlace level (k * width_of level) k 0 = record { slot_in = l; page_is = omega arith; rest_in = width_pos level } in
    let lt : k < length ss = omega (arith, n.full) in
    let lp : k < length (parts_of ss) = omega (arith, length-map ss part_of) in
    let fit = subst (IsSoundPart level) (part_at d (get_or ss k d) n l refl) (n.fit k (part_of d) lp) in
    let cell = sym (cell_at-part d (get_or ss k d) n at refl) ∙ e k l in
    own_cell level (get_or ss k d) _ (n.lower k d lt) fit cell refl

pub own_is : (s t : State) → Own s ≡ Own t → s ≡ t
own_is s t e = cc

pub first_is : {A : Type 0} (level : ℕ) (ss : List (Slot A)) (s : State) (d : Slot A) (f : SlotState) → IsNode level ss
    → IsCarried (width_of level) s (flatten (width_of level) (parts_of ss)) → OwnSlot f ≡ get_or ss 0 d
    → state_of f ≡ s
first_is level ss s d f n e is =
    own_is (state_of f) s (ap part_of is ∙ divided_slot level ss s n e 0 d (omega arith) ∙ ap Own (from_first s (width_of level)))

pub first_no_child : {A : Type 0} (level : ℕ) (ss : List (Slot A)) (s : State) (d : Slot A) (x : Slot A) → IsNode level ss
    → IsCarried (width_of level) s (flatten (width_of level) (parts_of ss)) → x ≡ get_or ss 0 d
    → part_of x ≡ Own s
first_no_child level ss s d x n e is = ap part_of is ∙ divided_slot level ss s n e 0 d (omega arith) ∙ ap Own (from_first s (width_of level))

-- the slots up to the k-th go on from the first
pub record Joins {A : Type 0} (w k : ℕ) (s : State) (ss : List (Slot A)) : Type 0 where
  pub so_far : (j : ℕ) (d : Slot A) → j < k → j < 512 → part_of (get_or ss j d) ≡ Own (state_from s (j * w))

pub joins-all : {A : Type 0} (level k : ℕ) (s : State) (ss : List (Slot A)) (d : Slot A) → IsNode level ss → 512 ≤ k
    → Joins (width_of level) k s ss → parts_of ss ≡ owns_divided (width_of level) s
joins-all level k s ss d n full h =
    let q : ℕ → Part = λ k. Own (state_from s (k * width_of level)) in
    let lm = length-map ss part_of in
    let len = length-map-range_with_len q 0 512 in
    let f = n.full in
    owns-divided (width_of level) 512 s (parts_of ss)
    (ext_get_or (part_of d) (parts_of ss) (owns (width_of level) s 512) (lm ∙ f ∙ sym len)
    (λ i l. let i_in : i < 512 = omega arith in get_or-map part_of ss i d (part_of d) (omega arith) ∙ h.so_far i d (omega arith) i_in
    ∙ sym (get_or-map-range_with_len q 0 512 i i (part_of d) i_in (omega arith))))
    refl

-- ---- such a node as one slot

pub width_most : (level : ℕ) → level ≤ 3 → width_of level ≤ 2 ^ 27
width_most zero h = omega arith
width_most (suc zero) h = omega arith
width_most (suc (suc zero)) h = omega arith
width_most (suc (suc (suc zero))) h = omega arith
width_most (suc (suc (suc (suc l)))) h = absurd (omega arith)

pub joined_sound : {A : Type 0} (level k : ℕ) (s : State) (ss : List (Slot A)) (d : Slot A) → IsNode level ss → 512 ≤ k → IsPlain s
    → Joins (width_of level) k s ss → FitsWidth (512 * width_of level) s
joined_sound level k s ss d n full plain h =
    let w : ℕ = width_of level in
    let lp : 511 < length (parts_of ss) = omega (arith, length-map ss part_of, n.full) in
    let last = subst (IsSoundPart level) (get_or-map part_of ss 511 d (part_of d) (omega (arith, n.full))
    ∙ h.so_far 511 d (omega arith) (omega arith)) (n.fit 511 (part_of d) lp) in
    record {
      fits = fits_before s.info (511 * w) (512 * w) (2 ^ 36) (omega arith) (omega (arith, width_most level n.low)) (omega (arith, last.fits));
      alone = λ leaf. absurd (two _ plain.no_leaf leaf);
    }

below_not_own : (rs : List Run) (s : State) → Below rs ≡ Own s → ⊥
below_not_own rs s e = cc

-- a node with a child is not what one slot carries on
pub no_child : {A : Type 0} (level : ℕ) (ss : List (Slot A)) (s : State) (d : Slot A) (x : Slot A) (b : Box (Node A) A) → IsNode level ss
    → IsCarried (width_of level) s (flatten (width_of level) (parts_of ss)) → x ≡ get_or ss 0 d
    → x ≡ Child b → ⊥
no_child level ss s d x b n e is child = below_not_own (runs b.value) s (sym (ap part_of child) ∙ first_no_child level ss s d x n e is)

-- nor is one whose first slot isn't plain
pub not_plain : {A : Type 0} (level : ℕ) (ss : List (Slot A)) (s : State) (d : Slot A) (f : SlotState) → IsNode level ss
    → IsCarried (width_of level) s (flatten (width_of level) (parts_of ss)) → OwnSlot f ≡ get_or ss 0 d
    → IsPlain s → IsPlain (state_of f)
not_plain level ss s d f n e is plain = subst IsPlain (sym (first_is level ss s d f n e is)) plain

-- nor is one with a slot that doesn't go on from the first
pub goes_on_all : {A : Type 0} (level : ℕ) (ss : List (Slot A)) (s : State) (d e : Slot A) (f : SlotState) (k : ℕ) (x : Slot A)
    → IsNode level ss → IsCarried (width_of level) s (flatten (width_of level) (parts_of ss)) → OwnSlot f ≡ get_or ss 0 d
    → k < 512 → x ≡ get_or ss k e → part_of x ≡ Own (state_from (state_of f) (k * width_of level))
goes_on_all level ss s d e f k x n same is l here =
    ap part_of here ∙ divided_slot level ss s n same k e l ∙ ap (λ t. Own (state_from t (k * width_of level))) (sym (first_is level ss s d f n same is))

pub part_of-at : {A : Type 0} (level : ℕ) (ss : List (Slot A)) (k : ℕ) (d x : Slot A) → IsNode level ss → k < 512 → x ≡ get_or ss k d → IsSoundPart level (part_of x)
part_of-at level ss k d x n l is = subst (IsSoundPart level) (part_at d x n l is) (n.fit k (part_of d) (omega (arith, length-map ss part_of, n.full)))

-- the file pages of the first slot and those that go on from it are numbers
pub first_fits : {A : Type 0} (level : ℕ) (ss : List (Slot A)) (k : ℕ) (d : Slot A) (f : SlotState) → IsNode level ss
    → OwnSlot f ≡ get_or ss 0 d → k < 512 → info_file_page (state_of f).info + k * width_of level < 2 ^ 64
first_fits level ss k d f n is l =
    let h = part_of-at level ss 0 d (OwnSlot f) n (omega arith) is in
    let most = width_most level n.low in
    let up : k * width_of level ≤ 512 * width_of level = mul-le-mul_right (width_of level) (let q : k ≤ 512 = omega arith in q) in
    omega (arith, h.fits)

pub total-divided : (w : ℕ) (s : State) → total (divided w s) ≡ 512 * w
unfolding owns_divided
total-divided w s =
    let q : ℕ → Part = λ k. Own (state_from s (k * w)) in
    let wide : All (IsWide w) (owns w s 512) = All-map (IsWide w) q (range_with_len 0 512) (λ k. omega arith) in
    ap total (sym (runs-divided w s)) ∙ total-flatten w (owns w s 512) wide ∙ ap (λ n. n * w) (length-map-range_with_len q 0 512)
