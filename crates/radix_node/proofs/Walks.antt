-- Walks over the slots of a node
use Rattle.slot_lock.proofs.Words.{Box, ◌^◌, ◌≡◌, ℕ, ◌+◌, ◌-◌, ◌*◌, ◌<◌, ◌≤◌, ◌||◌, ◌↔◌, ◌⊎◌, inl, inr, ⊎_elim, Bool, true, false, None, is_some, List}
use Rattle.slot_lock.proofs.Words.{get_or, min, max, refl, sym, ap, ◌∙◌, subst, arith, cases_lt, mul-le-mul_right, members, is_recorded}
use Rattle.radix_node.specs.declared.node.Node.{Node}
use Rattle.radix_node.specs.declared.node.Slot.{Slot}
use Rattle.radix_node.specs.declared.node.Slot.TheVariants.{Own as OwnSlot, Child}
use Rattle.radix_node.specs.declared.state.SlotState.{SlotState}
use Rattle.radix_node.specs.State.{state_of}
use Rattle.radix_node.specs.Run.{Run, Cell, cell_at, width_of}
use Rattle.radix_node.specs.Node.{Parts, runs, flatten}
use Rattle.radix_node.specs.Slots.{parts_of, IsNode}
use Rattle.radix_node.specs.Walk.{HasUser, Blocked, IsOpen, HasFreeRun}
use Rattle.radix_node.proofs.Flat.{IsPlace, cell_at-Own, cell_at-Child, child_level, child_pages, width_pos}
use Rattle.radix_node.proofs.Joined.{width_most}
use Rattle.slot_lock.proofs.Facts.{none_of, either_left, either_right}

-- ---- the pages of one slot

-- a page lies in the slot with this number
pub record IsOf (level i p : ℕ) : Type 0 where
  pub low : i * width_of level ≤ p
  pub high : p < i * width_of level + width_of level

place_of : {level i p : ℕ} → i < 512 → IsOf level i p → IsPlace level p i (p - i * width_of level)
place_of l h =
    record { slot_in = l; page_is = omega (arith, h.low); rest_in = omega (arith, h.low, h.high) }

pub own_page : {A : Type 0} {level i : ℕ} {ss : List (Slot A)} (d : Slot A) (s : SlotState)
    → IsNode level ss → i < 512 → OwnSlot s ≡ get_or ss i d → (p : ℕ) → IsOf level i p
    → cell_at (flatten (width_of level) (parts_of ss)) p
    ≡ record { state = state_of s; offset = p - i * width_of level; width = width_of level }
own_page d s n l is p h = cell_at-Own d s n (place_of l h) is

pub child_page : {A : Type 0} {level i : ℕ} {ss : List (Slot A)} (d : Slot A) (b : Box (Node A) A)
    → IsNode level ss → i < 512 → Child b ≡ get_or ss i d → (p : ℕ) → IsOf level i p
    → cell_at (flatten (width_of level) (parts_of ss)) p ≡ cell_at (runs b.value) (p - i * width_of level)
child_page d b n l is p h = cell_at-Child d b n (place_of l h) is

-- the pages of a range that a slot has, counted from the slot's first
pub record IsPart (first end start width low high : ℕ) : Type 0 where
  pub first_is : start + low ≡ max first start
  pub end_is : start + high ≡ min end (start + width)

-- a walk over a node's slots up to one, from which the k-th is next
pub record Along (level first end k to width : ℕ) : Type 0 where
  pub low : level ≤ 3
  pub width_is : width ≡ width_of level
  pub some : first < end
  pub past : first < k * width_of level + width_of level
  pub last : to ≤ 512
  pub to_low : to * width_of level < end + width_of level
  pub to_high : end ≤ to * width_of level

pub along_next : {level first end k next to width : ℕ} → Along level first end k to width
    → next ≡ k + 1 → Along level first end next to width
along_next {level} {first} {end} {k} {next} {to} {width} h e = record {
  low = h.low;
  width_is = h.width_is;
  some = h.some;
  past = rw e (omega (arith, h.past));
  last = h.last;
  to_low = h.to_low;
  to_high = h.to_high;
}

pub along_below : {level first end k to width : ℕ} → Along level first end k to width → k < to
    → k * width_of level < end
along_below {level} {first} {end} {k} {to} h l =
    omega
    (arith, mul-le-mul_right (width_of level) (let q : k + 1 ≤ to = omega arith in q), h.to_low)

pub along_done : {level first end k to width : ℕ} → Along level first end k to width → to ≤ k
    → end ≤ k * width_of level
along_done {level} {first} {end} {k} {to} h l =
    omega (arith, mul-le-mul_right (width_of level) l, h.to_high)

pub slot_small : {level first end k to width : ℕ} → Along level first end k to width → k < to
    → k * width_of level + width_of level ≤ 2 ^ 36
slot_small {level} {first} {end} {k} {to} h l =
    omega (
      arith,
      mul-le-mul_right (width_of level) (let q : k + 1 ≤ 512 = omega (arith, h.last) in q),
      width_most level h.low,
    )

-- the slot that is next is one of the node's
pub slot_fits : {level first end k to width : ℕ} → Along level first end k to width → k < to → k * width + width ≤ 2 ^ 36
slot_fits h l = rw h.width_is (slot_small h l)

pub along_in : {level first end k to width : ℕ} → Along level first end k to width → k < to
    → k < 512
along_in l h = omega (arith, l.last, h)

-- the pages of the range that the next slot has
pub along_part : {level first end k to width lo hi : ℕ} → Along level first end k to width
    → k * width + lo ≡ max first (k * width) → k * width + hi ≡ min end (k * width + width)
    → IsPart first end (k * width_of level) (width_of level) lo hi
along_part {first = first} {end = end} {k = k} {lo = lo} {hi = hi} l low high =
    subst (λ n. IsPart first end (k * n) n lo hi) l.width_is
    (record { first_is = low; end_is = high })

-- the next slot's child, to which a walk goes down, is of a lower level, and has the pages that it is asked for
pub record Down (level hi : ℕ) (v : Parts) : Type 0 where
  pub falls : v.level + 1 ≡ level
  pub pages : 512 * width_of v.level ≡ width_of level
  pub within : hi ≤ 512 * width_of v.level

pub along_down : {A : Type 0} {level first end k to width hi : ℕ} {ss : List (Slot A)} (d : Slot A) (b : Box (Node A) A) (v : Parts)
    → Along level first end k to width → k < to → IsNode level ss → Child b ≡ get_or ss k d
    → v ≡ b.value → hi ≤ width → Down level hi v
along_down d b v l h n is same most =
    let falls = child_level d b v n (along_in l h) is same in
    let pages = child_pages d b v n (along_in l h) is same in
    record { falls = falls; pages = pages; within = omega (arith, pages, l.width_is, most) }

-- ---- what each page has

-- a page of a child that is a page of the range
pub record Lower (first end start lo hi q : ℕ) : Type 0 where
  pub low : first ≤ start + q
  pub high : start + q < end

pub lower : {first end start width lo hi q : ℕ} → IsPart first end start width lo hi → lo ≤ q
    → q < hi → Lower first end start lo hi q
lower h a b = record { low = omega (arith, h.first_is); high = omega (arith, h.end_is) }

pub child_cell : {A : Type 0} {level i first end lo hi q : ℕ} {ss : List (Slot A)} (d : Slot A) (b : Box (Node A) A) (v : Parts)
    → IsNode level ss → i < 512 → Child b ≡ get_or ss i d
    → v ≡ b.value → IsPart first end (i * width_of level) (width_of level) lo hi → q < hi
    → cell_at (flatten (width_of level) (parts_of ss)) (i * width_of level + q) ≡ cell_at (runs v) q
child_cell {level = level} {i = i} {q = q} d b v n l is same part h =
    let k : i * width_of level + q - i * width_of level ≡ q = omega arith in
    child_page d b n l is (i * width_of level + q)
    (record { low = omega arith; high = omega (arith, part.end_is) })
    ∙ ap (λ v. cell_at (runs v) (i * width_of level + q - i * width_of level)) (sym same)
    ∙ ap (cell_at (runs v)) k

-- ---- the cores of the pages

-- the cores of the pages up to this one, and of no other pages than the range's
pub record Users (rs : List Run) (first end upto cores : ℕ) : Type 0 where
  pub only : (core : ℕ) → members cores core ≡ true → HasUser rs first end core
  pub all : (core p : ℕ) → first ≤ p → p < end → p < upto
      → is_recorded (cell_at rs p).state.info core ≡ true → members cores core ≡ true

either : (a b : Bool) → a || b ≡ true → (a ≡ true) ⊎ (b ≡ true)
either true b e = inl refl
either false b e = inr e

users_more : (rs : List Run) (first end upto next cores more : ℕ) (found : ℕ → Bool)
    → Users rs first end upto cores
    → ((core : ℕ) → members more core ≡ (members cores core || found core))
    → ((core : ℕ) → found core ≡ true → HasUser rs first end core)
    → ((core p : ℕ) → first ≤ p → p < end → upto ≤ p → p < next → is_recorded (cell_at rs p).state.info core ≡ true → found core ≡ true)
    → Users rs first end next more
users_more rs first end upto next cores more found u joined only all = record {
  only = λ core m. ⊎_elim (u.only core) (only core) (either (members cores core) (found core) (sym (joined core) ∙ m));
  all = λ core p a b c h. joined core ∙ ⊎_elim
      (λ (l : p < upto). either_left _ _ (u.all core p a b l h))
      (λ (l : upto ≤ p). either_right (members cores core) _ (all core p a b l c h))
      (cases_lt p upto);
}

-- the cores of a slot that is no child
pub users_own : {A : Type 0} {level i : ℕ} {ss : List (Slot A)} (d : Slot A) (s : SlotState) (first end cores more : ℕ)
    → IsNode level ss → i < 512 → OwnSlot s ≡ get_or ss i d
    → first < end → first < i * width_of level + width_of level → i * width_of level < end
    → ((core : ℕ) → members more core ≡ (members cores core || is_recorded (state_of s).info core))
    → Users (flatten (width_of level) (parts_of ss)) first end (i * width_of level) cores
    → Users (flatten (width_of level) (parts_of ss)) first end ((i + 1) * width_of level) more
users_own {level = level} {i = i} {ss = ss} d s first end cores more n l is some low high joined u =
    let pos = width_pos level in
    users_more (flatten (width_of level) (parts_of ss)) first end (i * width_of level)
    ((i + 1) * width_of level) cores more (λ core. is_recorded (state_of s).info core) u joined
    (λ core h. (
      max first (i * width_of level),
      omega arith,
      omega arith,
      at core (max first (i * width_of level))
          (record { low = omega arith; high = omega arith }) ∙ h,
    ))
    (λ core p a b c e h. sym (at core p (record { low = c; high = omega arith })) ∙ h)
  where
    at : (core p : ℕ) → IsOf level i p
        → is_recorded (cell_at (flatten (width_of level) (parts_of ss)) p).state.info core ≡ is_recorded (state_of s).info core
    at core p h = ap (λ (c : Cell). is_recorded c.state.info core) (own_page d s n l is p h)

-- the cores of a child's pages
pub users_child : {A : Type 0} {level i : ℕ} {ss : List (Slot A)} (d : Slot A) (b : Box (Node A) A) (first end lo hi cores below more : ℕ)
    → IsNode level ss → i < 512 → Child b ≡ get_or ss i d
    → IsPart first end (i * width_of level) (width_of level) lo hi
    → ((core : ℕ) → members more core ≡ (members cores core || members below core))
    → ((core : ℕ) → (members below core ≡ true) ↔ HasUser (runs b.value) lo hi core)
    → Users (flatten (width_of level) (parts_of ss)) first end (i * width_of level) cores
    → Users (flatten (width_of level) (parts_of ss)) first end ((i + 1) * width_of level) more
users_child {level = level} {i = i} {ss = ss} d b first end lo hi cores below more n l is part joined found u =
    users_more (flatten (width_of level) (parts_of ss)) first end (i * width_of level)
    ((i + 1) * width_of level) cores more (λ core. members below core) u joined
    (λ core h. let w = (found core).0 h in
    let k : i * width_of level + w.0 - i * width_of level ≡ w.0 = omega arith in (
      i * width_of level + w.0,
      omega (arith, part.first_is, w.1),
      omega (arith, part.end_is, w.2),
      at core (i * width_of level + w.0)
          (record { low = omega arith; high = omega (arith, part.end_is, w.2) })
          ∙ ap (λ n. is_recorded (cell_at (runs b.value) n).state.info core) k ∙ w.3,
    ))
    (λ core p a m c e h. (found core).1 (
      p - i * width_of level,
      omega (arith, part.first_is),
      omega (arith, part.end_is),
      sym
          (at core p (record { low = c; high = omega arith })) ∙ h,
    ))
  where
    at : (core p : ℕ) → IsOf level i p
        → is_recorded (cell_at (flatten (width_of level) (parts_of ss)) p).state.info core ≡ is_recorded
        (cell_at (runs b.value) (p - i * width_of level)).state.info core
    at core p h = ap (λ (c : Cell). is_recorded c.state.info core) (child_page d b n l is p h)

pub users_all : (rs : List Run) (first end upto cores : ℕ) → Users rs first end upto cores
    → end ≤ upto → (core : ℕ) → (members cores core ≡ true) ↔ HasUser rs first end core
users_all rs first end upto cores u l core =
    (u.only core, λ w. u.all core w.0 w.1 w.2 (omega (arith, w.2)) w.3)

-- ---- free pages

-- the pages of the range up to a page are seen, of which those from open on are free, and too few
pub record FreeTo (rs : List Run) (base first end n start open_at upto : ℕ) : Type 0 where
  pub low : start ≤ open_at
  pub by : open_at ≤ base + upto
  pub short : base + upto < open_at + n
  pub free : (p : ℕ) → first ≤ p → p < upto → open_at ≤ base + p → (cell_at rs p).state.info ≡ None
  pub before : (r : ℕ) → start ≤ r → r < open_at → Blocked rs base first end n r

-- how far the range is seen before the slot that begins at a page
abbrev pub reach : ℕ → ℕ → ℕ → ℕ
reach first end start = min end (max first start)

pub free_mapped : {A : Type 0} {level i : ℕ} {ss : List (Slot A)} (d : Slot A) (s : SlotState) (base first end lo hi n start open_at : ℕ)
    → IsNode level ss → i < 512 → OwnSlot s ≡ get_or ss i d
    → IsPart first end (i * width_of level) (width_of level) lo hi → lo < hi
    → is_some (state_of s).info ≡ true
    → FreeTo (flatten (width_of level) (parts_of ss)) base first end n start open_at (i * width_of level + lo)
    → FreeTo (flatten (width_of level) (parts_of ss)) base first end n start (base + i * width_of level + hi) (i * width_of level + hi)
free_mapped {level = level} {i = i} {ss = ss} d s base first end lo hi n start open_at nd l is part order mapped h =
    record {
      low = omega (arith, h.low, h.by);
      by = omega arith;
      short = omega (arith, h.by, h.short);
      free = λ p a b c. absurd (omega arith);
      before = λ r a b. ⊎_elim
          (λ (x : r < open_at). h.before r a x)
          (λ (x : open_at ≤ r). ⊎_elim
          (λ (y : r < base + (i * width_of level + lo)). blocked (i * width_of level + lo) r (omega arith) (omega arith) (omega arith) (omega (arith, h.short)))
          (λ (y : base + (i * width_of level + lo) ≤ r). blocked (r - base) r (omega arith) (omega arith) (omega arith) (omega (arith, h.by, h.short)))
          (cases_lt r (base + (i * width_of level + lo))))
          (cases_lt r open_at);
    }
  where
    blocked : (p r : ℕ) → i * width_of level + lo ≤ p → p < i * width_of level + hi → r ≤ base + p
        → base + p < r + n → Blocked (flatten (width_of level) (parts_of ss)) base first end n r
    blocked p r a b c e = (
      p,
      omega (arith, part.first_is),
      omega (arith, part.end_is),
      c,
      e,
      ap (λ (c : Cell). is_some c.state.info)
          (own_page d s nd l is p (record { low = omega arith; high = omega (arith, part.end_is) }))
          ∙ mapped,
    )

-- a free slot's pages follow the free ones before it
own_free : {A : Type 0} {level i : ℕ} {ss : List (Slot A)} (d : Slot A) (s : SlotState) (base first end lo hi n start open_at : ℕ)
    → IsNode level ss → i < 512 → OwnSlot s ≡ get_or ss i d
    → IsPart first end (i * width_of level) (width_of level) lo hi
    → is_some (state_of s).info ≡ false
    → FreeTo (flatten (width_of level) (parts_of ss)) base first end n start open_at (i * width_of level + lo)
    → (p : ℕ) → first ≤ p → p < i * width_of level + hi → open_at ≤ base + p
    → (cell_at (flatten (width_of level) (parts_of ss)) p).state.info ≡ None
own_free {level = level} {i = i} d s base first end lo hi n start open_at nd l is part none h p a b c =
    ⊎_elim
    (λ (x : p < i * width_of level + lo). h.free p a x c)
    (λ (x : i * width_of level + lo ≤ p). ap (λ (c : Cell). c.state.info)
    (own_page d s nd l is p (record { low = omega arith; high = omega (arith, part.end_is) })) ∙ none_of _ none)
    (cases_lt p (i * width_of level + lo))

pub free_on : {A : Type 0} {level i : ℕ} {ss : List (Slot A)} (d : Slot A) (s : SlotState) (base first end lo hi n start open_at : ℕ)
    → IsNode level ss → i < 512 → OwnSlot s ≡ get_or ss i d
    → IsPart first end (i * width_of level) (width_of level) lo hi → lo < hi
    → is_some (state_of s).info ≡ false → base + i * width_of level + hi - open_at < n
    → FreeTo (flatten (width_of level) (parts_of ss)) base first end n start open_at (i * width_of level + lo)
    → FreeTo (flatten (width_of level) (parts_of ss)) base first end n start open_at (i * width_of level + hi)
free_on {level = level} {i = i} d s base first end lo hi n start open_at nd l is part order none few h =
    record {
      low = h.low;
      by = omega (arith, h.by);
      short = omega (arith, h.by);
      free = own_free d s base first end lo hi n start open_at nd l is part none h;
      before = h.before;
    }

pub free_found : {A : Type 0} {level i : ℕ} {ss : List (Slot A)} (d : Slot A) (s : SlotState) (base first end lo hi n start open_at : ℕ)
    → IsNode level ss → i < 512 → OwnSlot s ≡ get_or ss i d
    → IsPart first end (i * width_of level) (width_of level) lo hi
    → is_some (state_of s).info ≡ false → n ≤ base + i * width_of level + hi - open_at
    → FreeTo (flatten (width_of level) (parts_of ss)) base first end n start open_at (i * width_of level + lo)
    → HasFreeRun (flatten (width_of level) (parts_of ss)) base first end n start open_at
free_found {level = level} {i = i} d s base first end lo hi n start open_at nd l is part none enough h =
    record {
      low = h.low;
      high = omega (arith, part.end_is, h.by, h.short);
      free = λ p a b c e. own_free d s base first end lo hi n start open_at nd l is part none h p a (omega (arith, h.by, h.short)) c;
      before = h.before;
    }

-- what a child says of its pages
record Child_says {A : Type 0} (level i : ℕ) (ss : List (Slot A)) (rs : List Run) (base first end lo hi n start open_at here : ℕ) : Type 0 where
  pub free : (p : ℕ) → first ≤ p → p < i * width_of level + hi → here ≤ base + p
      → base + p < here + n → (cell_at (flatten (width_of level) (parts_of ss)) p).state.info ≡ None
  pub before : (r : ℕ) → start ≤ r → r < here
      → Blocked (flatten (width_of level) (parts_of ss)) base first end n r

says : {A : Type 0} {level i : ℕ} {ss : List (Slot A)} (d : Slot A) (b : Box (Node A) A) (v : Parts) (base first end lo hi n start open_at here : ℕ)
    → IsNode level ss → i < 512 → Child b ≡ get_or ss i d
    → v ≡ b.value → IsPart first end (i * width_of level) (width_of level) lo hi → open_at ≤ here
    → ((q : ℕ) → lo ≤ q → q < hi → here ≤ base + i * width_of level + q → base + i * width_of level + q < here + n → (cell_at (runs v) q).state.info ≡ None)
    → ((r : ℕ) → open_at ≤ r → r < here → Blocked (runs v) (base + i * width_of level) lo hi n r)
    → FreeTo (flatten (width_of level) (parts_of ss)) base first end n start open_at (i * width_of level + lo)
    → Child_says level i ss (runs v) base first end lo hi n start open_at here
says {level = level} {i = i} {ss = ss} d b v base first end lo hi n start open_at here nd l is same part up free before h =
    record {
      free = λ p a e c f. ⊎_elim
          (λ (x : p < i * width_of level + lo). h.free p a x (omega arith))
          (λ (x : i * width_of level + lo ≤ p).
          let k : i * width_of level + (p - i * width_of level) ≡ p = omega arith in
          ap (λ n. (cell_at (flatten (width_of level) (parts_of ss)) n).state.info) (sym k)
          ∙ ap (λ (c : Cell). c.state.info)
          (child_cell {q = p - i * width_of level} d b v nd l is same part (omega arith))
          ∙ free (p - i * width_of level) (omega arith) (omega arith) (omega arith) (omega arith))
          (cases_lt p (i * width_of level + lo));
      before = λ r a e. ⊎_elim
          (λ (x : r < open_at). h.before r a x)
          (λ (x : open_at ≤ r). let w = before r x e in let m = lower part w.1 w.2 in (
            i * width_of level + w.0,
            m.low,
            m.high,
            omega (arith, w.3),
            omega (arith, w.4),
            ap (λ (c : Cell). is_some c.state.info)
                (child_cell d b v nd l is same part w.2) ∙ w.5,
          ))
          (cases_lt r open_at);
    }

pub free_child : {A : Type 0} {level i : ℕ} {ss : List (Slot A)} (d : Slot A) (b : Box (Node A) A) (v : Parts) (base first end lo hi n start open_at here : ℕ)
    → IsNode level ss → i < 512 → Child b ≡ get_or ss i d
    → v ≡ b.value → IsPart first end (i * width_of level) (width_of level) lo hi
    → IsOpen (runs v) (base + i * width_of level) lo hi n open_at here
    → FreeTo (flatten (width_of level) (parts_of ss)) base first end n start open_at (i * width_of level + lo)
    → FreeTo (flatten (width_of level) (parts_of ss)) base first end n start here (i * width_of level + hi)
free_child {level = level} {i = i} d b v base first end lo hi n start open_at here nd l is same part o h =
    let s =
    says d b v base first end lo hi n start open_at here nd l is same part o.low
    (λ q x y z _. o.free q x y z) o.before h in
    record {
      low = omega (arith, h.low, o.low);
      by = omega (arith, o.high);
      short = omega (arith, o.short);
      free = λ p a e c. s.free p a e c (omega (arith, o.short));
      before = s.before;
    }

pub free_found_below : {A : Type 0} {level i : ℕ} {ss : List (Slot A)} (d : Slot A) (b : Box (Node A) A) (v : Parts)
    (base first end lo hi n start open_at here : ℕ)
    → IsNode level ss → i < 512 → Child b ≡ get_or ss i d
    → v ≡ b.value → IsPart first end (i * width_of level) (width_of level) lo hi
    → HasFreeRun (runs v) (base + i * width_of level) lo hi n open_at here
    → FreeTo (flatten (width_of level) (parts_of ss)) base first end n start open_at (i * width_of level + lo)
    → HasFreeRun (flatten (width_of level) (parts_of ss)) base first end n start here
free_found_below {level = level} {i = i} d b v base first end lo hi n start open_at here nd l is same part o h =
    let s =
    says d b v base first end lo hi n start open_at here nd l is same part o.low o.free o.before h
    in
    record {
      low = omega (arith, h.low, o.low);
      high = omega (arith, o.high, part.end_is);
      free = λ p a e c f. s.free p a (omega (arith, o.high)) c f;
      before = s.before;
    }

pub free_open : (rs : List Run) (base first end n start open_at upto : ℕ)
    → FreeTo rs base first end n start open_at upto → upto ≡ end
    → IsOpen rs base first end n start open_at
free_open rs base first end n start open_at upto h e = record {
  low = h.low;
  high = omega (arith, h.by);
  short = omega (arith, h.short);
  free = λ p a b c. h.free p a (omega arith) c;
  before = h.before;
}

-- how far the range is seen before and after a slot
pub reach_low : {first end start width lo hi : ℕ} → IsPart first end start width lo hi → first < end
    → start < end → reach first end start ≡ start + lo
reach_low h some low = omega (arith, h.first_is)

pub reach_high : {first end start width lo hi next : ℕ} → IsPart first end start width lo hi
    → first < start + width → next ≡ start + width → start + hi ≡ reach first end next
reach_high h past e = omega (arith, h.end_is)

pub free_before : {rs : List Run} {base first end width start lo hi n from open_at : ℕ}
    → IsPart first end start width lo hi → first < end → start < end
    → FreeTo rs base first end n from open_at (reach first end start)
    → FreeTo rs base first end n from open_at (start + lo)
free_before {rs} {base} {first} {end} {n = n} {from = from} {open_at = open_at} part some low h =
    subst (λ u. FreeTo rs base first end n from open_at u) (reach_low part some low) h
