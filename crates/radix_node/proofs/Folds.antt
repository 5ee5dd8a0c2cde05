-- Slots that become a node, and nodes that become a slot
use Rattle.slot_lock.proofs.Words.{Box, zero, suc, ◌≡◌, ℕ, ◌+◌, ◌-◌, ◌*◌, ◌/◌, ◌^◌, ◌<◌, ◌≤◌, ⊎_elim, true, false, Bool, List, [], length, get_or, Some, refl}
use Rattle.slot_lock.proofs.Words.{sym, ap, ◌∙◌, subst, arith, All, mul-le-mul_right, cases_lt, length-map, map-set, set-get_or, get_or-set_same, All-set}
use Rattle.slot_lock.proofs.Words.{is_leaf}
use Rattle.std.proofs.Common.{lit<}
use Rattle.std.specs.Prelude.{slice_get}
use Rattle.std.proofs.Math.Nat.{mul-div_cancel, mul_assoc}
use Rattle.std.proofs.Math.ListN.{set, length-set}
use Rattle.std.proofs.lemmas.List.{set-set}
use Rattle.std.proofs.lemmas.Option.{slice_get-get_or}
use Rattle.radix_node.specs.declared.node.Node.{Node}
use Rattle.radix_node.specs.declared.node.Slot.{Slot}
use Rattle.radix_node.specs.declared.node.Slot.TheVariants.{Own as OwnSlot, Child}
use Rattle.radix_node.specs.declared.state.SlotState.{SlotState}
use Rattle.radix_node.specs.State.{State, state_of, state_from, IsPlain}
use Rattle.radix_node.specs.Run.{Run, Cell, cell_at, with_run, in_parts, width_of, divided, CanFoldRuns, IsCarried, FitsWidth, IsWhole, FoldsRuns}
use Rattle.radix_node.specs.Node.{Part, Own, Below, Parts, runs, runs_of, flatten, node_of, owns_divided, IsOwn, CanFoldSlot, FoldsSlot, Expands}
use Rattle.radix_node.specs.Slots.{part_of, parts_of, IsNode}
use Rattle.radix_node.proofs.Runs.{cell_at-here, cell_later, with_run-one}
use Rattle.radix_node.proofs.Flat.{IsPlace, IsWide, wide, width_pos, width-below, width-times, place_index, cell_at-Own, with_run-flatten, spread}
use Rattle.radix_node.proofs.Flat.{cell_at-flatten, part_at, is_node-set, child_part, child_level, child_pages, level_below, runs-set}
use Rattle.radix_node.proofs.Flat.{cell_at-Child}
use Rattle.radix_node.proofs.Divided.{CanDivide, runs-divided, part_ends}
use Rattle.radix_node.proofs.Joined.{part_of-at, narrower}

-- the parts of one slot
pub in_parts-is : (level low : ℕ) (s : State) → low + 1 ≡ level → in_parts (record { width = width_of level; state = s }) ≡ divided (width_of low) s
in_parts-is level low s e =
    let w : width_of level ≡ width_of low * 512 = sym (width-below low level e) ∙ swap (width_of low) in
    ap (λ n. divided n s) (ap (λ n. n / 512) w ∙ mul-div_cancel (width_of low) {n = 512} (lit< tt))
  where
    swap : (n : ℕ) → 512 * n ≡ n * 512
    swap n = omega arith

pub slot_part : {A : Type 0} (level i : ℕ) (ss : List (Slot A)) (d s : Slot A) → IsNode level ss → i < 512 → s ≡ get_or ss i d
    → slice_get (parts_of ss) i ≡ Some (part_of s)
slot_part level i ss d s n l is = slice_get-get_or (parts_of ss) i (part_of d) (omega (arith, length-map ss part_of, n.full)) ∙ ap Some (part_at d s n l is)

-- a slot of several pages can be divided
pub can_divide : {A : Type 0} (level low i : ℕ) (ss : List (Slot A)) (d : Slot A) (s : SlotState) → IsNode level ss → i < 512
    → OwnSlot s ≡ get_or ss i d → low + 1 ≡ level → CanDivide (width_of low) (state_of s)
can_divide level low i ss d s n l is e =
    let h = part_of-at level ss i d (OwnSlot s) n l is in
    let w = width-below low level e in
    record {
      no_leaf = go (is_leaf (state_of s).info) refl h.alone;
      fits = omega (arith, h.fits);
    }
  where
    go : (b : Bool) → is_leaf (state_of s).info ≡ b → (is_leaf (state_of s).info ≡ true → width_of level ≡ 1) → is_leaf (state_of s).info ≡ false
    go false f alone = f
    go true f alone = let one = alone f in let pos = width_pos low in absurd (omega (arith, width-below low level e))

-- ---- expansions

pub new_child : {A : Type 0} (level i : ℕ) (ss : List (Slot A)) (b : Box (Node A) A) (s : State) → IsNode level ss → 0 < level
    → b.value ≡ node_of (level - 1) s → IsWhole b.value.level (512 * width_of b.value.level) (runs b.value)
    → IsNode level (set ss i (Child b))
new_child level i ss b s n pos e whole =
    let lower : b.value.level + 1 ≡ level = ap (λ (v : Parts). v.level + 1) e ∙ one level pos in
    is_node-set level i ss (Child b) n lower (child_part level b.value.level (runs b.value) lower whole)
  where
    one : (k : ℕ) → 0 < k → k - 1 + 1 ≡ k
    one k h = omega arith

pub expands : {A : Type 0} (level i : ℕ) (ss : List (Slot A)) (d : Slot A) (s : SlotState) (b : Box (Node A) A) → IsNode level ss → i < 512
    → OwnSlot s ≡ get_or ss i d → b.value ≡ node_of (level - 1) (state_of s)
    → Expands (record { level = level; parts = parts_of ss }) (record { level = level; parts = parts_of (set ss i (Child b)) }) i
expands level i ss d s b n l is e = record {
  state = state_of s;
  same_level = refl;
  was = slot_part level i ss d (OwnSlot s) n l is;
  parts = map-set part_of ss i (Child b) ∙ ap (λ v. set (parts_of ss) i (Below (runs v))) e ∙ ap (λ rs. set (parts_of ss) i (Below rs))
      (runs-divided (width_of (level - 1)) (state_of s));
}

-- the runs of a node whose slot was expanded
pub runs-Expands : {A : Type 0} {level page i rest : ℕ} {ss : List (Slot A)} (d : Slot A) (s : SlotState) (old new : Parts)
    → IsNode level ss → IsPlace level page i rest → OwnSlot s ≡ get_or ss i d
    → old ≡ record { level = level; parts = parts_of ss } → 0 < level → Expands old new i
    → runs new ≡ with_run in_parts (flatten (width_of level) (parts_of ss)) page
runs-Expands {level = level} {page = page} {i = i} {rest = rest} {ss = ss} d s old new n at is o pos h =
    let lev = ap (λ (v : Parts). v.level) o in
    let was : slice_get (parts_of ss) i ≡ Some (Own h.state) = ap (λ (v : Parts). slice_get v.parts i) (sym o) ∙ h.was in
    let same : state_of s ≡ h.state = some_own _ _ (sym (slot_part level i ss d (OwnSlot s) n at.slot_in is) ∙ was) in
    let one : level - 1 + 1 ≡ level = omega arith in
    let parts : new.parts ≡ set (parts_of ss) i (Below (divided (width_of (level - 1)) (state_of s))) =
    h.parts ∙ ap (λ (v : Parts). set v.parts i (Below (divided (width_of (v.level - 1)) h.state))) o
    ∙ ap (λ t. set (parts_of ss) i (Below (divided (width_of (level - 1)) t))) (sym same) in
    let len = length-map ss part_of in
    ap (λ k. flatten (width_of k) new.parts) (h.same_level ∙ lev) ∙ ap (flatten (width_of level)) parts
    ∙ sym (with_run-flatten in_parts (width_of level) (parts_of ss) i (part_of d) (Below (divided (width_of (level - 1)) (state_of s)))
    page rest (wide level (parts_of ss) n.fit) (omega (arith, n.full, at.slot_in)) at.page_is at.rest_in
    (sym (in_parts-is level (level - 1) (state_of s) one)
    ∙ sym (with_run-one in_parts (record { width = width_of level; state = state_of s }) rest at.rest_in)
    ∙ ap (λ x. with_run in_parts (runs_of (width_of level) x) rest) (sym (part_at d (OwnSlot s) n at.slot_in is))))
  where
    some_own : (a b : State) → Some (Own a) ≡ Some (Own b) → a ≡ b
    some_own a b e = cc

pub own_is_own : {A : Type 0} (level i : ℕ) (ss : List (Slot A)) (d : Slot A) (s : SlotState) → IsNode level ss → i < 512
    → OwnSlot s ≡ get_or ss i d → IsOwn (slice_get (parts_of ss) i)
own_is_own level i ss d s n l is = subst IsOwn (sym (slot_part level i ss d (OwnSlot s) n l is)) tt

-- a level whose slots have several pages isn't the last
pub large_level : (level : ℕ) → 1 < width_of level → 0 < level
large_level zero h = absurd (omega (arith, ap (λ n. 2 ^ n) (let e : 9 * 0 ≡ 0 = omega arith in e)))
large_level (suc k) h = omega arith

-- ---- folds

some_below : (rs qs : List Run) → Some (Below rs) ≡ Some (Below qs) → rs ≡ qs
some_below rs qs e = cc

own_below : (s : State) (rs : List Run) → Some (Own s) ≡ Some (Below rs) → ⊥
own_below s rs e = cc

pub own_no_fold : {A : Type 0} (level i : ℕ) (ss : List (Slot A)) (d : Slot A) (s : SlotState) (v : Parts) → IsNode level ss → i < 512
    → OwnSlot s ≡ get_or ss i d → record { level = level; parts = parts_of ss } ≡ v
    → (t : State) → CanFoldSlot v i t → ⊥
own_no_fold level i ss d s v n l is o t can =
    own_below (state_of s) can.below (sym (slot_part level i ss d (OwnSlot s) n l is) ∙ ap (λ (v : Parts). slice_get v.parts i) o ∙ can.child)

-- what a node that can be folded says
pub child_carried : {A : Type 0} (level i : ℕ) (ss : List (Slot A)) (d : Slot A) (b : Box (Node A) A) (u v : Parts) → IsNode level ss
    → i < 512 → Child b ≡ get_or ss i d → record { level = level; parts = parts_of ss } ≡ v → u ≡ b.value
    → (t : State) → CanFoldSlot v i t → IsCarried (width_of u.level) t (runs u)
child_carried level i ss d b u v n l is o same t can =
    let lower : u.level + 1 ≡ level = child_level d b u n l is same in
    let lev : level ≡ v.level = ap (λ (v : Parts). v.level) o in
    let at : v.level - 1 ≡ u.level = omega arith in
    let below : can.below ≡ runs u = sym (ap runs same ∙ some_below (runs b.value) can.below (sym (slot_part level i ss d (Child b) n l is)
    ∙ ap (λ (v : Parts). slice_get v.parts i) o ∙ can.child)) in
    subst (IsCarried (width_of u.level) t) below (subst (λ k. IsCarried (width_of k) t can.below) at can.carried)

pub fold_node : {A : Type 0} (level i : ℕ) (ss : List (Slot A)) (d : Slot A) (b : Box (Node A) A) (u : Parts) (s : SlotState)
    → IsNode level ss → i < 512 → Child b ≡ get_or ss i d → u ≡ b.value → FitsWidth (512 * width_of u.level) (state_of s)
    → IsNode level (set ss i (OwnSlot s))
fold_node level i ss d b u s n l is same h =
    is_node-set level i ss (OwnSlot s) n tt (subst (λ w. FitsWidth w (state_of s)) (child_pages d b u n l is same) h)

pub folds_slot : {A : Type 0} (level i : ℕ) (ss : List (Slot A)) (d : Slot A) (b : Box (Node A) A) (u v : Parts) (s : SlotState)
    → IsNode level ss → i < 512 → Child b ≡ get_or ss i d → record { level = level; parts = parts_of ss } ≡ v → u ≡ b.value
    → IsPlain (state_of s) → u.parts ≡ owns_divided (width_of u.level) (state_of s)
    → FoldsSlot v (record { level = level; parts = parts_of (set ss i (OwnSlot s)) }) i
folds_slot level i ss d b u v s n l is o same plain all =
    let lower : u.level + 1 ≡ level = child_level d b u n l is same in
    let lev : level ≡ v.level = ap (λ (v : Parts). v.level) o in
    let at : u.level ≡ v.level - 1 = omega arith in
    record {
      state = state_of s;
      plain = plain;
      was = ap (λ (v : Parts). slice_get v.parts i) (sym o) ∙ slot_part level i ss d (Child b) n l is
          ∙ ap (λ rs. Some (Below rs)) (ap runs (sym same) ∙ ap (flatten (width_of u.level)) all
          ∙ runs-divided (width_of u.level) (state_of s) ∙ ap (λ k. divided (width_of k) (state_of s)) at);
      same_level = lev;
      parts = map-set part_of ss i (OwnSlot s) ∙ ap (λ (v : Parts). set v.parts i (Own (state_of s))) o;
    }

some_part : (x y : Part) → Some x ≡ Some y → x ≡ y
some_part x y e = cc

pub runs-FoldsSlot : {A : Type 0} (level page i rest : ℕ) (ss : List (Slot A)) (d : Slot A) (b : Box (Node A) A) (old new : Parts)
    → IsNode level ss → IsPlace level page i rest → Child b ≡ get_or ss i d
    → old ≡ record { level = level; parts = parts_of ss } → FoldsSlot old new i → FoldsRuns (flatten (width_of level) (parts_of ss)) (runs new) page
runs-FoldsSlot level page i rest ss d b old new n at is o h =
    let w : ℕ = width_of level in
    let ps : List Part = parts_of ss in
    let lower = level_below d b n at.slot_in is in
    let one : level - 1 + 1 ≡ level = omega arith in
    let lev = ap (λ (v : Parts). v.level) o in
    let y : Part = Below (divided (width_of (level - 1)) h.state) in
    let li : i < length ps = omega (arith, length-map ss part_of, n.full, at.slot_in) in
    let child : slice_get ps i ≡ Some y = ap (λ (v : Parts). slice_get v.parts i) (sym o) ∙ h.was
    ∙ ap (λ (v : Parts). Some (Below (divided (width_of (v.level - 1)) h.state))) o in
    let got : get_or ps i y ≡ y = some_part _ _ (sym (slice_get-get_or ps i y li) ∙ child) in
    let xs : List Part = set ps i (Own h.state) in
    let now : runs new ≡ flatten w xs = ap (λ (k : ℕ). flatten (width_of k) new.parts) (h.same_level ∙ lev)
    ∙ ap (flatten w) (h.parts ∙ ap (λ (v : Parts). set v.parts i (Own h.state)) o) in
    let wides : All (IsWide w) xs = All-set (IsWide w) ps i (Own h.state) (omega arith) (wide level ps n.fit) in
    let lx : i < length xs = omega (arith, length-set ps i (Own h.state)) in
    let own : get_or xs i y ≡ Own h.state = get_or-set_same ps i (Own h.state) y li in
    let back : set xs i y ≡ ps = set-set ps i (Own h.state) y ∙ ap (set ps i) (sym got) ∙ set-get_or ps i y in
    let cell : cell_at (runs new) page ≡ record { state = h.state; offset = rest; width = w } =
    ap (λ rs. cell_at rs page) now ∙ cell_at-flatten w xs i y page rest wides lx at.page_is at.rest_in
    ∙ ap (λ x. cell_at (runs_of w x) rest) own ∙ cell_at-here (record { width = w; state = h.state }) [] rest at.rest_in in
    let here : runs_of w y ≡ with_run in_parts (runs_of w (get_or xs i y)) rest =
    sym (in_parts-is level (level - 1) h.state one) ∙ sym (with_run-one in_parts (record { width = w; state = h.state }) rest at.rest_in)
    ∙ ap (λ x. with_run in_parts (runs_of w x) rest) (sym own) in
    record {
      plain = subst (λ (c : Cell). IsPlain c.state) (sym cell) h.plain;
      large = subst (λ (c : Cell). 1 < c.width) (sym cell) (several level (omega arith));
      parts = ap (flatten w) (sym back) ∙ sym (with_run-flatten in_parts w xs i y y page rest wides lx at.page_is at.rest_in here)
          ∙ ap (λ rs. with_run in_parts rs page) (sym now);
    }
  where
    several : (k : ℕ) → 0 < k → 1 < width_of k
    several k h = let e = width-below (k - 1) k (omega arith) in let pos = width_pos (k - 1) in omega arith

-- a fold below is one of the node
pub folds-Child : {A : Type 0} (level page i rest : ℕ) (ss : List (Slot A)) (d : Slot A) (b c : Box (Node A) A) (v : Parts)
    → IsNode level ss → IsPlace level page i rest → Child b ≡ get_or ss i d → v ≡ b.value
    → IsNode level (set ss i (Child c)) → FoldsRuns (runs v) (runs c.value) rest → FoldsRuns (flatten (width_of level) (parts_of ss))
    (flatten (width_of level) (parts_of (set ss i (Child c)))) page
folds-Child level page i rest ss d b c v n at is same m h =
    let w : ℕ = width_of level in
    let li : i < length ss = omega (arith, n.full, at.slot_in) in
    let new : Child c ≡ get_or (set ss i (Child c)) i d = sym (get_or-set_same ss i (Child c) d li) in
    let cell = cell_at-Child d c m at new in
    let back : set (set ss i (Child c)) i (Child b) ≡ ss = set-set ss i (Child c) (Child b) ∙ ap (set ss i) is ∙ set-get_or ss i d in
    record {
      plain = subst (λ (x : Cell). IsPlain x.state) (sym cell) h.plain;
      large = subst (λ (x : Cell). 1 < x.width) (sym cell) h.large;
      parts = ap (λ xs. flatten w (parts_of xs)) (sym back) ∙ runs-set in_parts d (Child c) (Child b) m at new (ap runs (sym same) ∙ h.parts);
    }

-- ---- where no node can be folded

-- each slot of such a lower node has its width
pub join_width : (level page : ℕ) (rs : List Run) (can : CanFoldRuns level rs page) → (cell_at rs page).width ≡ width_of can.own_level
join_width level page rs can =
    let w : ℕ = width_of can.own_level in
    let base : ℕ = can.before * width_of (can.own_level + 1) in
    let u : 512 * w ≡ width_of (can.own_level + 1) = width-below can.own_level (can.own_level + 1) refl in
    let at = place_index w (page - base) (width_pos can.own_level) (omega (arith, can.from, can.until)) in
    let o : ℕ = page - base - at.0 * w in
    let is : base + at.0 * w + o ≡ page = omega (arith, can.from, at.2) in
    let cell = can.slots at.0 at.1 in
    let in_it : (cell_at rs (base + at.0 * w)).offset + o < (cell_at rs (base + at.0 * w)).width = subst
    (λ (c : Cell). c.offset + o < c.width) (sym cell) (omega (arith, at.2, at.3)) in
    ap (λ p. (cell_at rs p).width) (sym is) ∙ ap (λ (c : Cell). c.width) (cell_later rs (base + at.0 * w) o in_it) ∙ ap (λ (c : Cell). c.width) cell

-- a slot of the node has more pages than a lower node's slots
pub own_no_join : {A : Type 0} {level page i rest : ℕ} {ss : List (Slot A)} (d : Slot A) (s : SlotState) (v : Parts) → IsNode level ss
    → IsPlace level page i rest → OwnSlot s ≡ get_or ss i d → record { level = level; parts = parts_of ss } ≡ v
    → ¬ CanFoldRuns v.level (runs v) page
own_no_join {level = level} {page = page} {ss = ss} d s v n at is o can =
    let here : CanFoldRuns level (flatten (width_of level) (parts_of ss)) page = subst (λ (v : Parts). CanFoldRuns v.level (runs v) page) (sym o) can in
    let w = join_width level page _ here in
    let own = ap (λ (c : Cell). c.width) (cell_at-Own d s n at is) in
    let l = narrower here.own_level level (let q = here.low in omega arith) in
    absurd (omega arith)

same_block : (a b w p : ℕ) → a * w ≤ p → p < a * w + w → b * w ≤ p → p < b * w + w → a ≡ b
same_block a b w p la ua lb ub = ⊎_elim
    (λ (l : a < b). absurd (let m = mul-le-mul_right w (let q : a + 1 ≤ b = omega arith in q) in omega arith))
    (λ (l : b ≤ a). ⊎_elim
    (λ (m : b < a). absurd (let k = mul-le-mul_right w (let q : b + 1 ≤ a = omega arith in q) in omega arith))
    (λ (m : a ≤ b). omega arith)
    (cases_lt b a))
    (cases_lt a b)

-- where the deepest node with the page isn't below a child, it is the child itself
pub child_can_fold : {A : Type 0} {level page i rest : ℕ} {ss : List (Slot A)} (d : Slot A) (b : Box (Node A) A) (u v : Parts)
    → IsNode level ss → IsPlace level page i rest → Child b ≡ get_or ss i d → record { level = level; parts = parts_of ss } ≡ v
    → u ≡ b.value
    → width_of u.level ≤ (cell_at (runs u) rest).width → CanFoldRuns v.level (runs v) page → (s : State) × CanFoldSlot v i s
child_can_fold {level = level} {page = page} {i = i} {rest = rest} {ss = ss} d b u v n at is o same wide can =
    let here : CanFoldRuns level (flatten (width_of level) (parts_of ss)) page = subst (λ (v : Parts). CanFoldRuns v.level (runs v) page) (sym o) can in
    let lower : u.level + 1 ≡ level = child_level d b u n at.slot_in is same in
    let width = sym (join_width level page _ here) ∙ ap (λ (c : Cell). c.width) (cell_at-Child d b n at is)
    ∙ ap (λ v. (cell_at (runs v) rest).width) (sym same) in
    let m : here.own_level ≡ u.level = ⊎_elim
    (λ (l : here.own_level < u.level). absurd (let q = narrower here.own_level u.level (omega arith) in omega arith))
    (λ (l : u.level ≤ here.own_level). let q = here.low in omega arith)
    (cases_lt here.own_level u.level) in
    let w : ℕ = width_of u.level in
    let big : width_of (here.own_level + 1) ≡ width_of level = ap (λ k. width_of (k + 1)) m ∙ ap width_of lower in
    let full : 512 * w ≡ width_of level = width-below u.level level lower in
    let times : here.before * width_of (here.own_level + 1) ≡ here.before * width_of level = ap (λ n. here.before * n) big in
    let place = at.page_is in
    let r = at.rest_in in
    let block : here.before ≡ i = same_block here.before i (width_of level) page (omega (arith, here.from)) (omega (arith, here.until))
    (omega arith) (omega arith) in
    let lev : v.level - 1 ≡ u.level = (let q = ap (λ (v : Parts). v.level) o in omega arith) in
    let base : here.before * width_of (here.own_level + 1) ≡ i * width_of level = times ∙ ap (λ n. n * width_of level) block in
    let carried : IsCarried w here.state (runs b.value) = λ k l.
    let inside : k * w < width_of level = omega (arith, part_ends w k l, width_pos u.level) in
    let p : IsPlace level (i * width_of level + k * w) i (k * w) = record { slot_in = at.slot_in; page_is = refl; rest_in = inside } in
    sym (cell_at-Child d b n p is)
    ∙ ap (λ x. cell_at (flatten (width_of level) (parts_of ss)) (x + k * w)) (sym base)
    ∙ ap (λ x. cell_at (flatten (width_of level) (parts_of ss)) (here.before * width_of (here.own_level + 1) + k * width_of x)) (sym m)
    ∙ here.slots k l
    ∙ ap (λ x. record { state = state_from here.state (k * width_of x); offset = 0; width = width_of x }) m in (
      here.state,
      record {
        plain = here.plain;
        below = runs b.value;
        child = ap (λ (v : Parts). slice_get v.parts i) (sym o) ∙ slot_part level i ss d (Child b) n at.slot_in is;
        carried = subst (λ x. IsCarried (width_of x) here.state (runs b.value)) (sym lev) carried;
      },
    )

-- what can be folded below a child's own slots can be folded in the child
pub below_can_join : {A : Type 0} {level page i rest : ℕ} {ss : List (Slot A)} (d : Slot A) (b : Box (Node A) A) (u v : Parts)
    → IsNode level ss → IsPlace level page i rest → Child b ≡ get_or ss i d → record { level = level; parts = parts_of ss } ≡ v
    → u ≡ b.value
    → (cell_at (runs u) rest).width < width_of u.level → CanFoldRuns v.level (runs v) page → CanFoldRuns u.level (runs u) rest
below_can_join {level = level} {page = page} {i = i} {rest = rest} {ss = ss} d b u v n at is o same thin can =
    let here : CanFoldRuns level (flatten (width_of level) (parts_of ss)) page = subst (λ (v : Parts). CanFoldRuns v.level (runs v) page) (sym o) can in
    let lower : u.level + 1 ≡ level = child_level d b u n at.slot_in is same in
    let width = sym (join_width level page _ here) ∙ ap (λ (c : Cell). c.width) (cell_at-Child d b n at is)
    ∙ ap (λ v. (cell_at (runs v) rest).width) (sym same) in
    let less : here.own_level < u.level = ⊎_elim
    (λ (l : here.own_level < u.level). l)
    (λ (l : u.level ≤ here.own_level). let q = here.low in let e : here.own_level ≡ u.level = omega arith in let f = ap width_of e in absurd (omega arith))
    (cases_lt here.own_level u.level) in
    let U : ℕ = width_of (here.own_level + 1) in
    let w : ℕ = width_of here.own_level in
    let m : ℕ = 2 ^ (9 * (level - (here.own_level + 1))) in
    let wide : width_of level ≡ m * U = width-times (here.own_level + 1) level (omega arith) in
    let start : i * width_of level ≡ i * m * U = ap (λ n. i * n) wide ∙ sym (mul_assoc i m U) in
    let place = at.page_is in
    let r = at.rest_in in
    let from = here.from in
    let until = here.until in
    let above : i * m ≤ here.before = ⊎_elim
    (λ (l : here.before < i * m). absurd (let q = mul-le-mul_right U (let z : here.before + 1 ≤ i * m = omega arith in z) in omega arith))
    (λ (l : i * m ≤ here.before). l)
    (cases_lt here.before (i * m)) in
    let back : i * m + (here.before - i * m) ≡ here.before = omega arith in
    let split : here.before * U ≡ i * m * U + (here.before - i * m) * U = ap (λ n. n * U) (sym back) ∙ spread (i * m) (here.before - i * m) U in
    let under : here.before - i * m < m = ⊎_elim
    (λ (l : here.before - i * m < m). l)
    (λ (l : m ≤ here.before - i * m). absurd (let q = mul-le-mul_right U l in omega arith))
    (cases_lt (here.before - i * m) m) in
    let ends : (here.before - i * m) * U + U ≤ m * U = (let q = mul-le-mul_right U (let z : here.before - i * m + 1 ≤ m = omega arith in z) in omega arith) in
    let big : 512 * w ≡ U = width-below here.own_level (here.own_level + 1) refl in
    record {
      own_level = here.own_level;
      low = less;
      state = here.state;
      plain = here.plain;
      before = here.before - i * m;
      from = omega arith;
      until = omega arith;
      slots = λ k l.
          let inside : (here.before - i * m) * U + k * w < width_of level = omega (arith, part_ends w k l, width_pos here.own_level) in
          let p : IsPlace level (here.before * U + k * w) i ((here.before - i * m) * U + k * w) = record {
            slot_in = at.slot_in;
            page_is = omega arith;
            rest_in = inside;
          } in
          ap (λ v. cell_at (runs v) ((here.before - i * m) * U + k * w)) same ∙ sym (cell_at-Child d b n p is) ∙ here.slots k l;
    }
