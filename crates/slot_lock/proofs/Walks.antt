-- What a walk over the slots of a range has seen
use Rattle.slot_lock.proofs.Words.{◌≡◌, ℕ, ◌+◌, ◌-◌, ◌^◌, ◌<◌, ◌≤◌, ◌⊎◌, ◌||◌, ⊎_elim, inl, inr, Bool, true, false, List, length, Option, Some, None, is_some}
use Rattle.slot_lock.proofs.Words.{refl, sym, ◌∙◌, ap, max, min, arith, cases_lt, PageInfo, PageRange, has, members, info_from, frame_of, is_recorded, in_has}
use Rattle.slot_lock.specs.declared.slot.Slot.{Slot}
use Rattle.slot_lock.specs.SlotList.{IsSlotList, get_slot}
use Rattle.slot_lock.proofs.Places.{slot_at_is}
use Rattle.slot_lock.specs.Slots.{Slots, IsFreeRun}
use Rattle.slot_lock.specs.ListedSlots.{slots_of}
use Rattle.slot_lock.proofs.Steps.{before_limit}
use Rattle.slot_lock.proofs.Facts.{no_some, either_left, either_right}

pub is_some-from : (o : Option PageInfo) (n : ℕ) → is_some (info_from o n) ≡ is_some o
is_some-from None n = refl
is_some-from (Some info) n = refl

pub frame_of-from : (o : Option PageInfo) (n : ℕ) → frame_of (info_from o n) ≡ frame_of o
frame_of-from None n = refl
frame_of-from (Some info) n = refl

pub is_recorded-from : (o : Option PageInfo) (n core : ℕ) → is_recorded (info_from o n) core ≡ is_recorded o core
is_recorded-from None n core = refl
is_recorded-from (Some info) n core = refl

-- ---- where the walk is

-- the walk is at a slot that has or follows the first page
pub record IsWalk (rs : List Slot) (first i : ℕ) : Type 0 where
  pub within : i < length rs
  pub after : i + 1 < length rs → first < (get_slot rs (i + 1)).start

pub walk_more : (rs : List Slot) → IsSlotList rs → (first end i : ℕ) → IsWalk rs first i → (get_slot rs i).start < end → end ≤ 2 ^ 35 → i + 1 < length rs
walk_more rs ok first end i w l h = before_limit rs ok i w.within (omega arith)

pub walk_next : (rs : List Slot) → IsSlotList rs → (first i : ℕ) → IsWalk rs first i → i + 1 < length rs → IsWalk rs first (i + 1)
walk_next rs ok first i w h = record {
  within = h;
  after = λ l. let a = w.after h in let r = ok.rising (i + 1) l in omega arith;
}

-- what each page of a slot has
pub info_in : (rs : List Slot) → IsSlotList rs → (i p : ℕ) → i + 1 < length rs → (get_slot rs i).start ≤ p → p < (get_slot rs (i + 1)).start
    → (slots_of rs).info p ≡ info_from (get_slot rs i).info (p - (get_slot rs i).start)
info_in rs ok i p h a b = ap (λ (r : Slot). info_from r.info (p - r.start)) (slot_at_is rs ok p i (record { within = omega arith; from = a; until = λ _. b }))

-- a page of the slot, from the first page on
pub record PageIn (rs : List Slot) (first i : ℕ) : Type 0 where
  pub page : ℕ
  pub low : first ≤ page
  pub from : (get_slot rs i).start ≤ page
  pub until : page < (get_slot rs (i + 1)).start
  pub least : (page ≡ first) ⊎ (page ≡ (get_slot rs i).start)

pub page_in : (rs : List Slot) → IsSlotList rs → (first i : ℕ) → IsWalk rs first i → i + 1 < length rs → PageIn rs first i
page_in rs ok first i w h = ⊎_elim
    (λ (l : first < (get_slot rs i).start). record {
      page = (get_slot rs i).start;
      low = omega arith;
      from = omega arith;
      until = ok.rising i h;
      least = inr refl;
    })
    (λ (l : (get_slot rs i).start ≤ first). record { page = first; low = omega arith; from = l; until = w.after h; least = inl refl })
    (cases_lt first (get_slot rs i).start)

-- ---- the cores of the pages

-- the core is recorded on a page of the range below the bound
pub record UserBelow (s : Slots) (range : PageRange) (bound core : ℕ) : Type 0 where
  pub page : ℕ
  pub here : has range page ≡ true
  pub below : page < bound
  pub is : is_recorded (s.info page) core ≡ true

-- the cores are those of the pages of the range up to the slot at i
pub record Users (rs : List Slot) (range : PageRange) (cores i : ℕ) : Type 0 where
  pub walk : IsWalk rs range.first i
  pub only : (core : ℕ) → members cores core ≡ true → UserBelow (slots_of rs) range (get_slot rs i).start core
  pub all : (core : ℕ) → UserBelow (slots_of rs) range (get_slot rs i).start core → members cores core ≡ true

pub users_next : (rs : List Slot) → IsSlotList rs → (range : PageRange) (cores more i : ℕ) → range.first < range.end → Users rs range cores i
    → i + 1 < length rs → (get_slot rs i).start < range.end → ((core : ℕ) → members more core ≡ (members cores core || is_recorded (get_slot rs i).info core))
    → Users rs range more (i + 1)
users_next rs ok range cores more i some u h l joined = record {
  walk = walk_next rs ok range.first i u.walk h;
  only = λ core m. only core (members cores core) refl (sym (joined core) ∙ m);
  all = λ core m. joined core ∙ all core m;
}
  where
    older : (core : ℕ) → UserBelow (slots_of rs) range (get_slot rs i).start core → UserBelow (slots_of rs) range (get_slot rs (i + 1)).start core
    older core v = record { page = v.page; here = v.here; below = (let r = ok.rising i h in let b = v.below in omega arith); is = v.is }

    newer : (core : ℕ) → PageIn rs range.first i → is_recorded (get_slot rs i).info core ≡ true → UserBelow (slots_of rs) range (get_slot rs (i + 1)).start core
    newer core q e =
        let below : q.page < range.end = ⊎_elim (λ (s : q.page ≡ range.first). omega arith) (λ (s : q.page ≡ (get_slot rs i).start). omega arith) q.least in
        record {
          page = q.page;
          here = in_has range q.page q.low below;
          below = q.until;
          is = ap (λ o. is_recorded o core) (info_in rs ok i q.page h q.from q.until) ∙ (is_recorded-from (get_slot rs i).info _ core ∙ e);
        }

    only : (core : ℕ) (b : Bool) → members cores core ≡ b → members cores core || is_recorded (get_slot rs i).info core ≡ true
        → UserBelow (slots_of rs) range (get_slot rs (i + 1)).start core
    only core true e m = older core (u.only core e)
    only core false e m = newer core (page_in rs ok range.first i u.walk h) (sym (ap (λ b. b || is_recorded (get_slot rs i).info core) e) ∙ m)

    all : (core : ℕ) → UserBelow (slots_of rs) range (get_slot rs (i + 1)).start core → members cores core || is_recorded (get_slot rs i).info core ≡ true
    all core v = ⊎_elim
        (λ (below : v.page < (get_slot rs i).start). either_left _ _ (u.all core (record { page = v.page; here = v.here; below = below; is = v.is })))
        (λ (from : (get_slot rs i).start ≤ v.page). either_right (members cores core) _
        (sym (is_recorded-from (get_slot rs i).info (v.page - (get_slot rs i).start) core)
        ∙ (sym (ap (λ o. is_recorded o core) (info_in rs ok i v.page h from v.below)) ∙ v.is)))
        (cases_lt v.page (get_slot rs i).start)

-- ---- free pages

-- the pages from start up to the slot at i are free and too few, and no earlier place has enough
pub record Free (rs : List Slot) (range : PageRange) (n start i : ℕ) : Type 0 where
  pub walk : IsWalk rs range.first i
  pub low : range.first ≤ start
  pub by : start ≤ max range.first (get_slot rs i).start
  pub free : (p : ℕ) → start ≤ p → p < (get_slot rs i).start → (slots_of rs).info p ≡ None
  pub short : min (get_slot rs i).start range.end < start + n
  pub least : (r : ℕ) → r < start → ¬ IsFreeRun (slots_of rs) range n r

pub free_mapped : (rs : List Slot) → IsSlotList rs → (range : PageRange) (n start i : ℕ) → 1 ≤ n → Free rs range n start i → i + 1 < length rs
    → (get_slot rs i).start < range.end → is_some (get_slot rs i).info ≡ true → Free rs range n (get_slot rs (i + 1)).start (i + 1)
free_mapped rs ok range n start i some f h l mapped = record {
  walk = walk_next rs ok range.first i f.walk h;
  low = let a = f.walk.after h in omega arith;
  by = omega arith;
  free = λ p a b. absurd (omega arith);
  short = omega arith;
  least = λ r m slot. ⊎_elim (λ (early : r < start). f.least r early slot) (λ (late : start ≤ r). clash r late m slot) (cases_lt r start);
}
  where
    taken : (p : ℕ) → (get_slot rs i).start ≤ p → p < (get_slot rs (i + 1)).start → (slots_of rs).info p ≡ None → ⊥
    taken p a b e = no_some _ (ap is_some (info_in rs ok i p h a b) ∙ (is_some-from (get_slot rs i).info _ ∙ mapped)) e

    clash : (r : ℕ) → start ≤ r → r < (get_slot rs (i + 1)).start → IsFreeRun (slots_of rs) range n r → ⊥
    clash r late m slot = ⊎_elim
        (λ (a : r < (get_slot rs i).start). taken (get_slot rs i).start (omega arith) (ok.rising i h)
        (slot.free (get_slot rs i).start (omega arith) (omega (arith, f.short))))
        (λ (a : (get_slot rs i).start ≤ r). taken r a m (slot.free r (omega arith) (omega arith)))
        (cases_lt r (get_slot rs i).start)

unmapped_in : (rs : List Slot) → IsSlotList rs → (i p : ℕ) → i + 1 < length rs → (get_slot rs i).start ≤ p → p < (get_slot rs (i + 1)).start
    → is_some (get_slot rs i).info ≡ false → (slots_of rs).info p ≡ None
unmapped_in rs ok i p h a b e = info_in rs ok i p h a b ∙ none_from (get_slot rs i).info (p - (get_slot rs i).start) e
  where
    none_from : (o : Option PageInfo) (m : ℕ) → is_some o ≡ false → info_from o m ≡ None
    none_from None m e = refl
    none_from (Some info) m e = cc

free_on : (rs : List Slot) → IsSlotList rs → (range : PageRange) (n start i : ℕ) → Free rs range n start i → i + 1 < length rs
    → is_some (get_slot rs i).info ≡ false → (p : ℕ) → start ≤ p → p < (get_slot rs (i + 1)).start → (slots_of rs).info p ≡ None
free_on rs ok range n start i f h e p a b = ⊎_elim
    (λ (l : p < (get_slot rs i).start). f.free p a l)
    (λ (l : (get_slot rs i).start ≤ p). unmapped_in rs ok i p h l b e)
    (cases_lt p (get_slot rs i).start)

pub free_next : (rs : List Slot) → IsSlotList rs → (range : PageRange) (n start i : ℕ) → Free rs range n start i → i + 1 < length rs
    → is_some (get_slot rs i).info ≡ false → min (get_slot rs (i + 1)).start range.end - start < n → Free rs range n start (i + 1)
free_next rs ok range n start i f h e few = record {
  walk = walk_next rs ok range.first i f.walk h;
  low = f.low;
  by = let r = ok.rising i h in omega (arith, f.by);
  free = free_on rs ok range n start i f h e;
  short = omega arith;
  least = f.least;
}

pub free_found : (rs : List Slot) → IsSlotList rs → (range : PageRange) (n start i : ℕ) → 1 ≤ n → Free rs range n start i → i + 1 < length rs
    → is_some (get_slot rs i).info ≡ false → n ≤ min (get_slot rs (i + 1)).start range.end - start → IsFreeRun (slots_of rs) range n start
free_found rs ok range n start i some f h e enough = record {
  inside = record { low = f.low; high = omega arith };
  free = λ p a b. free_on rs ok range n start i f h e p a (omega arith);
}

pub free_none : (rs : List Slot) (range : PageRange) (n start i : ℕ) → Free rs range n start i → range.end ≤ (get_slot rs i).start → (r : ℕ)
    → ¬ IsFreeRun (slots_of rs) range n r
free_none rs range n start i f l r slot = ⊎_elim
    (λ (a : r < start). f.least r a slot)
    (λ (a : start ≤ r). omega (arith, f.short, slot.inside.high))
    (cases_lt r start)
