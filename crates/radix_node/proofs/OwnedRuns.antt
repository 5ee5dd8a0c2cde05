-- Neighbouring slots that get another owner
use Rattle.slot_lock.proofs.Words.{Box, suc, zero, ◌≡◌, ℕ, ◌+◌, ◌-◌, ◌*◌, ◌<◌, ◌≤◌, ⊎_elim, List, [], ◌∷◌, length, get_or, refl, sym, ap, ◌∙◌, subst, arith}
use Rattle.slot_lock.proofs.Words.{All, mul-le-mul_right, cases_lt, length-map, map-set, set-get_or, get_or-set_same, All-set, All-get_or}
use Rattle.std.proofs.Math.ListN.{set, length-set}
use Rattle.std.proofs.lemmas.List.{set-set}
use Rattle.radix_node.specs.declared.node.Node.{Node}
use Rattle.radix_node.specs.declared.node.Slot.{Slot}
use Rattle.radix_node.specs.declared.node.Slot.TheVariants.{Own as OwnSlot, Child}
use Rattle.radix_node.specs.declared.own_run.Handover.{Handover}
use Rattle.radix_node.specs.State.{State, state_of}
use Rattle.radix_node.specs.Run.{Run, Cell, total, cell_at, with_run, in_state, width_of, FitsWidth}
use Rattle.radix_node.specs.Node.{Part, Below, Parts, runs_of, flatten, runs}
use Rattle.radix_node.specs.Slots.{part_of, parts_of, IsNode}
use Rattle.radix_node.specs.OwnedRuns.{OwnerChanges, HandsOver, GetsOwner, GetOwner}
use Rattle.radix_node.proofs.Divided.{part_ends}
use Rattle.radix_node.proofs.Flat.{IsWide, IsPlace, wide, width_pos, whole-node, cell_at-Own, cell_at-flatten, with_run-flatten, part_at, is_node-set, runs-Own, spread}
use Rattle.radix_node.proofs.Runs.{with_run-here, with_run-there, block}
use Rattle.radix_node.proofs.Locks.{owner_sound}

-- ---- lists of runs

pub wide_cell : (rs : List Run) (page : ℕ) → 0 < (cell_at rs page).width
wide_cell rs page = let b = block rs page in subst (λ (c : Cell). 0 < c.width) (sym (b.cells page b.low b.high)) (omega (arith, b.low, b.high))

total-in_state : (s : State) (rs : List Run) (page : ℕ) → total (with_run (in_state s) rs page) ≡ total rs
total-in_state s [] page = refl
total-in_state s (r ∷ rs) page = ⊎_elim
    (λ (l : page < r.width). ap total (with_run-here (in_state s) r rs page l))
    (λ (l : r.width ≤ page). ap total (with_run-there (in_state s) r rs page l)
    ∙ ap (λ n. r.width + n) (total-in_state s rs (page - r.width)))
    (cases_lt page r.width)

pub gets-total : (rs ts : List Run) (page w : ℕ) (owners : Handover) → GetsOwner rs ts page w owners → total ts ≡ total rs
gets-total rs ts page w owners h = ap total h.set ∙ total-in_state h.new rs page

pub get-total : (rs ts : List Run) (page w : ℕ) (owners : Handover) (n : ℕ) → GetOwner rs ts page w owners n → total ts ≡ total rs
get-total rs ts page w owners zero h = ap total h
get-total rs ts page w owners (suc n) (ms, before, last) =
    gets-total ms ts (page + n * w) w owners last ∙ get-total rs ms page w owners n before

-- ---- one more slot of a node

at_next : (level first k : ℕ) → first ≤ k → k < 512 → IsPlace level (first * width_of level + (k - first) * width_of level) k 0
at_next level first k low high =
    let e : first + (k - first) ≡ k = omega arith in
    let is : first * width_of level + (k - first) * width_of level ≡ k * width_of level =
    sym (spread first (k - first) (width_of level)) ∙ ap (λ n. n * width_of level) e in
    record { slot_in = high; page_is = omega (arith, is); rest_in = width_pos level }

handed_sound : {A : Type 0} {level k : ℕ} {ss : List (Slot A)} (d s t : Slot A) (owners : Handover) → IsNode level ss → k < 512
    → s ≡ get_or ss k d → HandsOver s t owners → IsNode level (set ss k t)
handed_sound {level = level} {k = k} {ss = ss} d s t owners n l is h =
    let at : IsPlace level (k * width_of level) k 0 =
    record { slot_in = l; page_is = omega arith; rest_in = width_pos level } in
    let cell = cell_at-Own d h.old n at (sym h.is_old ∙ is) in
    let within : k * width_of level < 512 * width_of level =
    omega (arith, part_ends (width_of level) k l, width_pos level) in
    let was = subst (λ (x : Cell). FitsWidth x.width x.state) cell ((whole-node level ss n).cells (k * width_of level) within).sound in
    subst (λ x. IsNode level (set ss k x)) (sym h.is_new)
    (is_node-set level k ss (OwnSlot h.new) n tt
    (subst (λ (s : State). FitsWidth (width_of level) s) (sym h.change.now) (owner_sound (width_of level) (state_of h.old) owners.to was)))

pub one_more : {A : Type 0} {level first k : ℕ} {ss : List (Slot A)} (d s t : Slot A) (rs : List Run) (owners : Handover)
    → IsNode level ss → first ≤ k → k < 512 → s ≡ get_or ss k d → HandsOver s t owners
    → GetOwner rs (flatten (width_of level) (parts_of ss)) (first * width_of level) (width_of level) owners (k - first)
    → IsNode level (set ss k t)
    × GetOwner rs (flatten (width_of level) (parts_of (set ss k t))) (first * width_of level) (width_of level) owners (k + 1 - first)
one_more {level = level} {first = first} {k = k} {ss = ss} d s t rs owners n low high is h before =
    let own = sym h.is_old ∙ is in
    let at = at_next level first k low high in
    let cell = cell_at-Own d h.old n at own in
    let last : GetsOwner (flatten (width_of level) (parts_of ss)) (flatten (width_of level) (parts_of (set ss k t)))
    (first * width_of level + (k - first) * width_of level) (width_of level) owners = record {
      begins = ap (λ (c : Cell). c.offset) cell;
      wide = ap (λ (c : Cell). c.width) cell;
      new = state_of h.new;
      change = subst (λ (c : Cell). OwnerChanges c.state (state_of h.new) owners) (sym cell) h.change;
      set = ap (λ x. flatten (width_of level) (parts_of (set ss k x))) h.is_new ∙ runs-Own d h.old h.new n at own;
    } in
    let e : suc (k - first) ≡ k + 1 - first = omega arith in (
      handed_sound d s t owners n high is h,
      subst (GetOwner rs (flatten (width_of level) (parts_of (set ss k t))) (first * width_of level) (width_of level) owners) e
          (flatten (width_of level) (parts_of ss), before, last),
    )

-- ---- the slots of a child

in_part : (w : ℕ) (xs : List Part) (i : ℕ) (d : Part) (ms ts : List Run) (page rest width : ℕ) (owners : Handover)
    → All (IsWide w) xs → i < length xs → total ms ≡ w → page ≡ i * w + rest → rest < w
    → GetsOwner ms ts rest width owners
    → GetsOwner (flatten w (set xs i (Below ms))) (flatten w (set xs i (Below ts))) page width owners
in_part w xs i d ms ts page rest width owners a l whole e within h =
    let ys = set xs i (Below ms) in
    let len = length-set xs i (Below ms) in
    let all = All-set (IsWide w) xs i (Below ms) whole a in
    let there = get_or-set_same xs i (Below ms) d l in
    let cell = cell_at-flatten w ys i d page rest all (omega (arith, len)) e within
    ∙ ap (λ x. cell_at (runs_of w x) rest) there in
    let changed = with_run-flatten (in_state h.new) w ys i d (Below ts) page rest all (omega (arith, len)) e within
    (h.set ∙ ap (λ x. with_run (in_state h.new) (runs_of w x) rest) (sym there)) in
    record {
      begins = ap (λ (c : Cell). c.offset) cell ∙ h.begins;
      wide = ap (λ (c : Cell). c.width) cell ∙ h.wide;
      new = h.new;
      change = subst (λ (c : Cell). OwnerChanges c.state h.new owners) (sym cell) h.change;
      set = sym (changed ∙ ap (flatten w) (set-set xs i (Below ms) (Below ts)));
    }

in_parts : (w : ℕ) (xs : List Part) (i : ℕ) (d : Part) (rs ts : List Run) (page rest width : ℕ) (owners : Handover) (n : ℕ)
    → All (IsWide w) xs → i < length xs → get_or xs i d ≡ Below rs → total rs ≡ w → page ≡ i * w + rest → rest + n * width ≤ w
    → GetOwner rs ts rest width owners n
    → GetOwner (flatten w xs) (flatten w (set xs i (Below ts))) page width owners n
in_parts w xs i d rs ts page rest width owners zero a l is whole e within h =
    ap (λ x. flatten w (set xs i (Below x))) h ∙ ap (λ x. flatten w (set xs i x)) (sym is) ∙ ap (flatten w) (set-get_or xs i d)
in_parts w xs i d rs ts page rest width owners (suc n) a l is whole e within (ms, before, last) =
    let pos = subst (λ k. 0 < k) last.wide (wide_cell ms (rest + n * width)) in
    let more : suc n * width ≡ n * width + width = omega arith in
    let same = get-total rs ms rest width owners n before in
    let page_is : page + n * width ≡ i * w + (rest + n * width) = omega arith in (
      flatten w (set xs i (Below ms)),
      in_parts w xs i d rs ms page rest width owners n a l is whole e (omega arith) before,
      in_part w xs i d ms ts (page + n * width) (rest + n * width) width owners a l (same ∙ whole) page_is (omega arith) last,
    )

pub in_child : {A : Type 0} {level page i rest : ℕ} {ss : List (Slot A)} (d : Slot A) (b c : Box (Node A) A) (v : Parts)
    (width n : ℕ) (owners : Handover) → IsNode level ss → IsPlace level page i rest → Child b ≡ get_or ss i d → v ≡ b.value
    → rest + n * width ≤ width_of level
    → GetOwner (runs v) (runs c.value) rest width owners n
    → GetOwner (flatten (width_of level) (parts_of ss)) (flatten (width_of level) (parts_of (set ss i (Child c)))) page width owners n
in_child {level = level} {page = page} {i = i} {rest = rest} {ss = ss} d b c v width n owners node at is same within h =
    let len = length-map ss part_of in
    let all = wide level (parts_of ss) node.fit in
    let below : get_or (parts_of ss) i (part_of d) ≡ Below (runs v) =
    part_at d (Child b) node at.slot_in is ∙ ap (λ (v : Parts). Below (runs v)) (sym same) in
    let l : i < length (parts_of ss) = omega (arith, node.full, at.slot_in) in
    let whole : total (runs v) ≡ width_of level =
    subst (IsWide (width_of level)) below (All-get_or (IsWide (width_of level)) (parts_of ss) i (part_of d) l all) in
    subst (λ xs. GetOwner (flatten (width_of level) (parts_of ss)) (flatten (width_of level) xs) page width owners n)
    (sym (map-set part_of ss i (Child c)))
    (in_parts (width_of level) (parts_of ss) i (part_of d) (runs v) (runs c.value) page rest width owners n all l below whole at.page_is
    within h)

-- ---- which slots they are

-- slots of a node lie in it
pub slots_within : (level first n : ℕ) → first + n ≤ 512 → first * width_of level + n * width_of level ≤ 512 * width_of level
slots_within level first n h = omega (arith, spread first n (width_of level), mul-le-mul_right (width_of level) h)
