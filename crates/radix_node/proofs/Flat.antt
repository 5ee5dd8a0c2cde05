-- A node's slots, one after another
use Rattle.slot_lock.proofs.Words.{Box, suc, zero, ◌≡◌, ℕ, ◌+◌, ◌-◌, ◌*◌, ◌/◌, ◌^◌, ◌<◌, ◌≤◌, List, [], ◌∷◌, ◌++◌, length, get_or, refl, sym, ap, ◌∙◌, subst}
use Rattle.slot_lock.proofs.Words.{arith, All, get_or-map, length-map, map-set, set-get_or, All-get_or, All-set}
use Rattle.std.proofs.Math.ListN.{set, length-set}
use Rattle.std.proofs.Math.Nat.{div-mul-le_self, lt-div-mul-add, div-lt_iff_lt-mul, mul_assoc}
use Rattle.std.proofs.lemmas.Nat.{pow_pos, pow-add, div-mul-add}
use Rattle.std.proofs.Math.Seq.{map-set_same}
use Rattle.std.proofs.lemmas.List.Elements.{All-head, All-tail}
use Rattle.radix_node.specs.declared.node.Node.{Node}
use Rattle.radix_node.specs.declared.node.Slot.{Slot}
use Rattle.radix_node.specs.declared.node.Slot.TheVariants.{Own as OwnSlot, Child}
use Rattle.radix_node.specs.declared.state.SlotState.{SlotState}
use Rattle.radix_node.specs.State.{state_of}
use Rattle.radix_node.specs.Run.{Run, Cell, total, cell_at, with_run, in_state, width_of, level_of, FitsWidth, IsCell, IsWhole}
use Rattle.radix_node.specs.Node.{Part, Own, Below, Parts, runs_of, flatten, runs, IsSoundPart}
use Rattle.radix_node.specs.Slots.{part_of, parts_of, IsLower, IsNode}
use Rattle.radix_node.proofs.Runs.{total-append, cell_at-here, cell_at-left, cell_at-right, with_run-left, with_run-right, with_run-one}

-- ---- widths

pub spread : (a b n : ℕ) → (a + b) * n ≡ a * n + b * n
spread a b n = omega arith

pub width-suc : (k : ℕ) → width_of (k + 1) ≡ 512 * width_of k
width-suc k =
    let e : 9 * (k + 1) ≡ 9 + 9 * k = omega arith in
    ap (λ n. 2 ^ n) e ∙ pow-add 2 9 (9 * k)

pub width-below : (k n : ℕ) → k + 1 ≡ n → 512 * width_of k ≡ width_of n
width-below k n h = sym (width-suc k) ∙ ap width_of h

pub width_pos : (k : ℕ) → 0 < width_of k
width_pos k = pow_pos (9 * k)

-- a wider slot has a whole number of narrower ones
pub width-times : (k n : ℕ) → k ≤ n → width_of n ≡ 2 ^ (9 * (n - k)) * width_of k
width-times k n h =
    let e : 9 * n ≡ 9 * (n - k) + 9 * k = omega arith in
    ap (λ m. 2 ^ m) e ∙ pow-add 2 (9 * (n - k)) (9 * k)

-- ---- parts of one width

abbrev pub IsWide : ℕ → Part → Type 0
IsWide w x = total (runs_of w x) ≡ w

pub wide-part : (level : ℕ) (x : Part) → IsSoundPart level x → IsWide (width_of level) x
wide-part level (Own s) h = omega arith
wide-part level (Below rs) h = h.pages_are

pub wide : (level : ℕ) (xs : List Part) → All (IsSoundPart level) xs → All (IsWide (width_of level)) xs
wide level xs h = λ k d l. wide-part level (get_or xs k d) (h k d l)

pub total-flatten : (w : ℕ) (xs : List Part) → All (IsWide w) xs → total (flatten w xs) ≡ length xs * w
total-flatten w [] h = omega arith
total-flatten w (x ∷ xs) h =
    omega (arith, total-append (runs_of w x) (flatten w xs), All-head (IsWide w) x xs h, total-flatten w xs (All-tail (IsWide w) x xs h))

-- the slot of a page stands in the part at its index
pub cell_at-flatten : (w : ℕ) (xs : List Part) (i : ℕ) (d : Part) (page rest : ℕ) → All (IsWide w) xs → i < length xs → page ≡ i * w + rest → rest < w
    → cell_at (flatten w xs) page ≡ cell_at (runs_of w (get_or xs i d)) rest
cell_at-flatten w [] i d page rest a l e h = absurd (omega arith)
cell_at-flatten w (x ∷ xs) zero d page rest a l e h =
    let t : total (runs_of w x) ≡ w = All-head (IsWide w) x xs a in
    let e' : page ≡ rest = omega arith in
    cell_at-left (runs_of w x) (flatten w xs) page (omega arith) ∙ ap (cell_at (runs_of w x)) e'
cell_at-flatten w (x ∷ xs) (suc i) d page rest a l e h =
    let t : total (runs_of w x) ≡ w = All-head (IsWide w) x xs a in
    cell_at-right (runs_of w x) (flatten w xs) page (omega arith)
    ∙ cell_at-flatten w xs i d (page - total (runs_of w x)) rest (All-tail (IsWide w) x xs a) (omega arith) (omega arith) h

-- a change of one part's slot is a change of the node's
pub with_run-flatten : (f : Run → List Run) (w : ℕ) (xs : List Part) (i : ℕ) (d y : Part) (page rest : ℕ) → All (IsWide w) xs
    → i < length xs → page ≡ i * w + rest → rest < w
    → runs_of w y ≡ with_run f (runs_of w (get_or xs i d)) rest
    → with_run f (flatten w xs) page ≡ flatten w (set xs i y)
with_run-flatten f w [] i d y page rest a l e h is = absurd (omega arith)
with_run-flatten f w (x ∷ xs) zero d y page rest a l e h is =
    let t : total (runs_of w x) ≡ w = All-head (IsWide w) x xs a in
    let e' : page ≡ rest = omega arith in
    with_run-left f (runs_of w x) (flatten w xs) page (omega arith) ∙ ap (λ (l : List Run). l ++ flatten w xs) (ap (with_run f (runs_of w x)) e' ∙ sym is)
with_run-flatten f w (x ∷ xs) (suc i) d y page rest a l e h is =
    let t : total (runs_of w x) ≡ w = All-head (IsWide w) x xs a in
    with_run-right f (runs_of w x) (flatten w xs) page (omega arith)
    ∙ ap (λ (l : List Run). runs_of w x ++ l) (with_run-flatten f w xs i d y (page - total (runs_of w x)) rest (All-tail (IsWide w) x xs a)
    (omega arith) (omega arith) h is)

-- ---- the slots of a node

-- the place of each page of a node
pub place_index : (w page : ℕ) → 0 < w → page < 512 * w → (k : ℕ) × (k < 512) × (k * w ≤ page) × (page < k * w + w)
place_index w page pos h =
    let k = page / w in
    let below : k * w ≤ page = div-mul-le_self page w in
    let above : page < k * w + w = lt-div-mul-add pos in
    let lt : k < 512 = (div-lt_iff_lt-mul pos).1 h in
    (k, lt, below, above)

level_is : (l : ℕ) → l ≤ 3 → level_of (width_of l) ≡ l
level_is zero h = refl
level_is (suc zero) h = refl
level_is (suc (suc zero)) h = refl
level_is (suc (suc (suc zero))) h = refl
level_is (suc (suc (suc (suc l)))) h = absurd (omega arith)

pub cell_is : (level page l before : ℕ) (c : Cell) → level ≤ 3 → l ≤ level → c.width ≡ width_of l → page ≡ before * c.width + c.offset
    → c.offset < c.width → FitsWidth c.width c.state → IsCell level page c
cell_is level page l before c most low width place within sound =
    let is : level_of c.width ≡ l = ap level_of width ∙ level_is l (omega arith) in
    let count : page / c.width ≡ before = ap (λ n. n / c.width) place ∙ div-mul-add before c.width c.offset within in
    record {
      low = omega arith;
      width_is = width ∙ ap width_of (sym is);
      place = place ∙ ap (λ n. n * c.width + c.offset) (sym count);
      within = within;
      sound = sound;
    }

cell_of-part : (level i page rest : ℕ) (x : Part) → level ≤ 3 → IsSoundPart level x → page ≡ i * width_of level + rest → rest < width_of level
    → IsCell level page (cell_at (runs_of (width_of level) x) rest)
cell_of-part level i page rest (Own s) most h e l =
    subst (IsCell level page) (sym (cell_at-here (record { width = width_of level; state = s }) [] rest l))
    (cell_is level page level i (record { state = s; offset = rest; width = width_of level }) most (omega arith) refl e l h)
cell_of-part level i page rest (Below rs) most h e l =
    let c = h.cells rest l in
    let own : ℕ = level_of (cell_at rs rest).width in
    let before : ℕ = rest / (cell_at rs rest).width in
    let m : ℕ = 2 ^ (9 * (level - own)) in
    let wide : width_of level ≡ m * (cell_at rs rest).width = width-times own level (omega (arith, c.low)) ∙ ap (λ n. m * n) (sym c.width_is) in
    let times : i * width_of level ≡ i * m * (cell_at rs rest).width = ap (λ n. i * n) wide ∙ sym (mul_assoc i m (cell_at rs rest).width) in
    let both : (i * m + before) * (cell_at rs rest).width ≡ i * m * (cell_at rs rest).width + before * (cell_at rs rest).width = spread
    (i * m) before (cell_at rs rest).width in
    cell_is level page own (i * m + before) (cell_at rs rest) most (omega (arith, c.low)) c.width_is (omega (arith, c.place)) c.within c.sound

pub whole-parts : (level : ℕ) (xs : List Part) → level ≤ 3 → All (IsSoundPart level) xs → length xs ≡ 512
    → IsWhole level (512 * width_of level) (flatten (width_of level) xs)
whole-parts level xs most h n = record {
  pages_are = total-flatten (width_of level) xs (wide level xs h) ∙ ap (λ k. k * width_of level) n;
  cells = λ page l.
      let at = place_index (width_of level) page (width_pos level) l in
      let li : at.0 < length xs = omega (arith, at.1) in
      let rest : page ≡ at.0 * width_of level + (page - at.0 * width_of level) = omega (arith, at.2) in
      let low : page - at.0 * width_of level < width_of level = omega (arith, at.2, at.3) in
      let d : Part = Below [] in
      subst (IsCell level page) (sym (cell_at-flatten (width_of level) xs at.0 d page (page - at.0 * width_of level) (wide level xs h) li rest low))
      (cell_of-part level at.0 page (page - at.0 * width_of level) (get_or xs at.0 d) most (h at.0 d li) rest low);
}

pub whole-node : {A : Type 0} (level : ℕ) (ss : List (Slot A)) → IsNode level ss → IsWhole level (512 * width_of level) (flatten (width_of level) (parts_of ss))
whole-node level ss n = whole-parts level (parts_of ss) n.low n.fit (length-map ss part_of ∙ n.full)

-- where a page is in a node
pub record IsPlace (level page slot rest : ℕ) : Type 0 where
  pub slot_in : slot < 512
  pub page_is : page ≡ slot * width_of level + rest
  pub rest_in : rest < width_of level

pub part_at : {A : Type 0} {level i : ℕ} {ss : List (Slot A)} (d s : Slot A) → IsNode level ss → i < 512 → s ≡ get_or ss i d
    → get_or (parts_of ss) i (part_of d) ≡ part_of s
part_at {i = i} {ss = ss} d s n l is = get_or-map part_of ss i d (part_of d) (omega (arith, n.full)) ∙ ap part_of (sym is)

pub cell_at-part : {A : Type 0} {level page i rest : ℕ} {ss : List (Slot A)} (d s : Slot A) → IsNode level ss → IsPlace level page i rest → s ≡ get_or ss i d
    → cell_at (flatten (width_of level) (parts_of ss)) page ≡ cell_at (runs_of (width_of level) (part_of s)) rest
cell_at-part {level = level} {page = page} {i = i} {rest = rest} {ss = ss} d s n at is =
    let len = length-map ss part_of in
    cell_at-flatten (width_of level) (parts_of ss) i (part_of d) page rest (wide level (parts_of ss) n.fit)
    (omega (arith, n.full, at.slot_in)) at.page_is at.rest_in
    ∙ ap (λ x. cell_at (runs_of (width_of level) x) rest) (part_at d s n at.slot_in is)

pub cell_at-Own : {A : Type 0} {level page i rest : ℕ} {ss : List (Slot A)} (d : Slot A) (s : SlotState) → IsNode level ss
    → IsPlace level page i rest → OwnSlot s ≡ get_or ss i d
    → cell_at (flatten (width_of level) (parts_of ss)) page ≡ record { state = state_of s; offset = rest; width = width_of level }
cell_at-Own d s n at is = cell_at-part d (OwnSlot s) n at is ∙ cell_at-here _ [] _ at.rest_in

pub cell_at-Child : {A : Type 0} {level page i rest : ℕ} {ss : List (Slot A)} (d : Slot A) (b : Box (Node A) A) → IsNode level ss
    → IsPlace level page i rest → Child b ≡ get_or ss i d
    → cell_at (flatten (width_of level) (parts_of ss)) page ≡ cell_at (runs b.value) rest
cell_at-Child d b n at is = cell_at-part d (Child b) n at is

pub level_below : {A : Type 0} {level i : ℕ} {ss : List (Slot A)} (d : Slot A) (b : Box (Node A) A) → IsNode level ss → i < 512
    → Child b ≡ get_or ss i d → b.value.level + 1 ≡ level
level_below {level = level} {i = i} {ss = ss} d b n l is = subst (IsLower level) (sym is) (All-get_or (IsLower level) ss i d (omega (arith, n.full)) n.lower)

-- a node stays one where a slot is written
pub is_node-set : {A : Type 0} (level i : ℕ) (ss : List (Slot A)) (s : Slot A) → IsNode level ss → IsLower level s
    → IsSoundPart level (part_of s) → IsNode level (set ss i s)
is_node-set level i ss s n l p = record {
  low = n.low;
  full = length-set ss i s ∙ n.full;
  lower = All-set (IsLower level) ss i s l n.lower;
  fit = subst (All (IsSoundPart level)) (sym (map-set part_of ss i s)) (All-set (IsSoundPart level) (parts_of ss) i (part_of s) p n.fit);
}

-- a whole child is a part of the level above
pub child_part : (level low : ℕ) (rs : List Run) → low + 1 ≡ level → IsWhole low (512 * width_of low) rs → IsSoundPart level (Below rs)
child_part level low rs e h =
    let below : low ≡ level - 1 = omega arith in
    subst (λ n. IsWhole (level - 1) n rs) (width-below low level e) (subst (λ n. IsWhole n (512 * width_of low) rs) below h)

-- the runs of a node whose slot was written so
pub runs-set : {A : Type 0} {level page i rest : ℕ} {ss : List (Slot A)} (f : Run → List Run) (d s t : Slot A) → IsNode level ss
    → IsPlace level page i rest → s ≡ get_or ss i d
    → runs_of (width_of level) (part_of t) ≡ with_run f (runs_of (width_of level) (part_of s)) rest
    → flatten (width_of level) (parts_of (set ss i t)) ≡ with_run f (flatten (width_of level) (parts_of ss)) page
runs-set {level = level} {page = page} {i = i} {rest = rest} {ss = ss} f d s t n at is e =
    let len = length-map ss part_of in
    ap (flatten (width_of level)) (map-set part_of ss i t)
    ∙ sym (with_run-flatten f (width_of level) (parts_of ss) i (part_of d) (part_of t) page rest (wide level (parts_of ss) n.fit)
    (omega (arith, n.full, at.slot_in)) at.page_is at.rest_in
    (e ∙ ap (λ x. with_run f (runs_of (width_of level) x) rest) (sym (part_at d s n at.slot_in is))))

-- ---- a written slot

pub child_level : {A : Type 0} {level i : ℕ} {ss : List (Slot A)} (d : Slot A) (b : Box (Node A) A) (v : Parts) → IsNode level ss → i < 512
    → Child b ≡ get_or ss i d → v ≡ b.value → v.level + 1 ≡ level
child_level d b v n l is same = ap (λ (v : Parts). v.level + 1) same ∙ level_below d b n l is

pub child_pages : {A : Type 0} {level i : ℕ} {ss : List (Slot A)} (d : Slot A) (b : Box (Node A) A) (v : Parts) → IsNode level ss → i < 512
    → Child b ≡ get_or ss i d → v ≡ b.value → 512 * width_of v.level ≡ width_of level
child_pages d b v n l is same = width-below _ _ (child_level d b v n l is same)

-- a node stays one where a child is changed
pub child_node : {A : Type 0} {level i : ℕ} {ss : List (Slot A)} (d : Slot A) (b c : Box (Node A) A) (v : Parts) → IsNode level ss
    → i < 512 → Child b ≡ get_or ss i d → v ≡ b.value
    → c.value.level ≡ v.level → IsWhole c.value.level (512 * width_of c.value.level) (runs c.value) → IsNode level (set ss i (Child c))
child_node {level = level} {i = i} {ss = ss} d b c v n l is same e h =
    let lower : c.value.level + 1 ≡ level = ap (λ k. k + 1) e ∙ child_level d b v n l is same in
    is_node-set level i ss (Child c) n lower (child_part level c.value.level (runs c.value) lower h)

pub runs-Own : {A : Type 0} {level page i rest : ℕ} {ss : List (Slot A)} (d : Slot A) (s t : SlotState) → IsNode level ss
    → IsPlace level page i rest → OwnSlot s ≡ get_or ss i d
    → flatten (width_of level) (parts_of (set ss i (OwnSlot t))) ≡ with_run (in_state (state_of t)) (flatten (width_of level) (parts_of ss)) page
runs-Own d s t n at is = runs-set (in_state (state_of t)) d (OwnSlot s) (OwnSlot t) n at is (sym (with_run-one (in_state (state_of t)) _ _ at.rest_in))

pub runs-Child : {A : Type 0} {level page i rest : ℕ} {ss : List (Slot A)} (f : Run → List Run) (d : Slot A) (b c : Box (Node A) A)
    (v : Parts) → IsNode level ss → IsPlace level page i rest → Child b ≡ get_or ss i d → v ≡ b.value
    → runs c.value ≡ with_run f (runs v) rest
    → flatten (width_of level) (parts_of (set ss i (Child c))) ≡ with_run f (flatten (width_of level) (parts_of ss)) page
runs-Child {rest = rest} f d b c v n at is same e = runs-set f d (Child b) (Child c) n at is (e ∙ ap (λ v. with_run f (runs v) rest) same)

-- a slot that was written as it is
pub same_slots : {A : Type 0} (i : ℕ) (ss : List (Slot A)) (d s : Slot A) → s ≡ get_or ss i d → set ss i s ≡ ss
same_slots i ss d s is = ap (set ss i) is ∙ set-get_or ss i d

-- a child that was written as it is
pub same_child : {A : Type 0} (i : ℕ) (ss : List (Slot A)) (d : Slot A) (b c : Box (Node A) A) → Child b ≡ get_or ss i d
    → Child c ≡ Child b → parts_of (set ss i (Child c)) ≡ parts_of ss
same_child i ss d b c is e = map-set_same part_of ss i (Child c) d (ap part_of (e ∙ is))
