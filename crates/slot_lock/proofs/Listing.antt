-- Lists of the pages that have a frame
use Rattle.slot_lock.proofs.Words.{◌≡◌, ℕ, ◌+◌, ◌-◌, ◌<◌, ◌≤◌, ⊎_elim, true, List, length, [], ◌∷◌, ◌++◌, Option, None, Some, max, min, refl, sym, ◌∙◌, ap}
use Rattle.slot_lock.proofs.Words.{subst, arith, cases_lt, PageInfo, frame_of, is_leaf, NoneIn}
use Rattle.std.proofs.Common.{append_assoc, slice_get}
use Rattle.std.proofs.lemmas.List.{append-nil}
use Rattle.slot_lock.specs.declared.framed.Framed.{Framed}
use Rattle.slot_lock.specs.declared.slot.Slot.{Slot}
use Rattle.slot_lock.specs.Framed.{ListsFrames, AddsFrames, frames_in}
use Rattle.slot_lock.specs.SlotList.{IsSlotList, get_slot}
use Rattle.slot_lock.specs.Slots.{Slots, IsSlot, IsSlotMap, NoFrames}
use Rattle.slot_lock.specs.ListedSlots.{slots_of}
use Rattle.slot_lock.proofs.Walks.{IsWalk, walk_next, info_in, frame_of-from}

-- ---- one list after another

-- pages without a frame before those of a list
gap_before : (frame : ℕ → Option ℕ) (first m end : ℕ) (xs : List Framed) → first ≤ m → NoneIn frame first m → ListsFrames frame m end xs
    → ListsFrames frame first end xs
gap_before frame first m end [] l gap h = λ p a b. ⊎_elim (λ (c : p < m). gap p a c) (λ (c : m ≤ p). h p c b) (cases_lt p m)
gap_before frame first m end (x ∷ xs) l gap h = (
  omega (arith, h.0),
  h.1,
  λ p a b. ⊎_elim (λ (c : p < m). gap p a c) (λ (c : m ≤ p). h.2 p c b) (cases_lt p m),
  h.3,
  h.4,
)

lists_then : (frame : ℕ → Option ℕ) (first m end : ℕ) (xs ys : List Framed) → first ≤ m → m ≤ end → ListsFrames frame first m xs
    → ListsFrames frame m end ys → ListsFrames frame first end (xs ++ ys)
lists_then frame first m end [] ys l n h g = gap_before frame first m end ys l h g
lists_then frame first m end (x ∷ xs) ys l n h g = (
  h.0,
  omega (arith, h.1),
  h.2,
  h.3,
  lists_then frame (x.page + 1) m end xs ys (omega (arith, h.1)) n h.4 g,
)

-- the same pages have the same frames
pub lists_same : (frame other : ℕ → Option ℕ) (first end : ℕ) (xs : List Framed) → ((p : ℕ) → first ≤ p → p < end → frame p ≡ other p)
    → ListsFrames frame first end xs → ListsFrames other first end xs
lists_same frame other first end [] same h = λ p a b. sym (same p a b) ∙ h p a b
lists_same frame other first end (x ∷ xs) same h = (
  h.0,
  h.1,
  λ p a b. sym (same p a (omega (arith, b, h.1))) ∙ h.2 p a b,
  sym (same x.page h.0 h.1) ∙ h.3,
  lists_same frame other (x.page + 1) end xs (λ p a b. same p (omega (arith, a, h.0)) b) h.4,
)

-- ---- what was added

pub adds_none : (frame : ℕ → Option ℕ) (first end : ℕ) (xs : List Framed) → NoneIn frame first end → AddsFrames frame first end xs xs
adds_none frame first end xs none = ([], sym (append-nil xs), none)

pub adds_one : (frame : ℕ → Option ℕ) (page f : ℕ) (xs : List Framed) → frame page ≡ Some f
    → AddsFrames frame page (page + 1) xs (xs ++ (record { page = page; frame = f }) ∷ [])
adds_one frame page f xs had = (
  (record { page = page; frame = f }) ∷ [],
  refl,
  (omega arith, omega arith, λ p a b. absurd (omega (arith, a, b)), had, λ p a b. absurd (omega (arith, a, b))),
)

pub adds_then : (frame : ℕ → Option ℕ) (first m end : ℕ) (xs ys zs : List Framed) → first ≤ m → m ≤ end → AddsFrames frame first m xs ys
    → AddsFrames frame m end ys zs → AddsFrames frame first end xs zs
adds_then frame first m end xs ys zs l n h g = (
  h.0 ++ g.0,
  g.1 ∙ ap (λ vs. vs ++ g.0) h.1 ∙ append_assoc xs h.0 g.0,
  lists_then frame first m end h.0 g.0 l n h.2 g.2,
)

pub adds_same : (frame other : ℕ → Option ℕ) (first end : ℕ) (xs ys : List Framed) → ((p : ℕ) → first ≤ p → p < end → frame p ≡ other p)
    → AddsFrames frame first end xs ys → AddsFrames other first end xs ys
adds_same frame other first end xs ys same h = (h.0, h.1, lists_same frame other first end h.0 same h.2)

-- ---- the slots of a range

pub framed_leaf : (o : Option PageInfo) (f : ℕ) → frame_of o ≡ Some f → is_leaf o ≡ true
framed_leaf None f e = absurd cc
framed_leaf (Some info) f e = rw e refl

-- how far the pages of a range up to a page reach
abbrev pub reach : ℕ → ℕ → ℕ → ℕ
reach first end p = min end (max first p)

-- the pages of the range with a frame up to the slot at i were added
pub record ListsTo (rs : List Slot) (first end i : ℕ) (old new : List Framed) : Type 0 where
  pub walk : IsWalk rs first i
  pub adds : AddsFrames (frames_in (slots_of rs)) first (reach first end (get_slot rs i).start) old new

pub list_none : (rs : List Slot) → IsSlotList rs → (first end i : ℕ) (old new : List Framed) → first ≤ end → ListsTo rs first end i old new
    → i + 1 < length rs → frame_of (get_slot rs i).info ≡ None → ListsTo rs first end (i + 1) old new
list_none rs ok first end i old new l h more none =
    let up = ok.rising i more in
    let after = h.walk.after more in
    record {
      walk = walk_next rs ok first i h.walk more;
      adds = adds_then _ first (reach first end (get_slot rs i).start) (reach first end (get_slot rs (i + 1)).start) old new new
          (omega arith) (omega arith) h.adds
          (adds_none _ _ _ new (λ p a b. ap frame_of (info_in rs ok i p more (omega arith) (omega arith))
          ∙ (frame_of-from (get_slot rs i).info (p - (get_slot rs i).start) ∙ none)));
    }

-- a slot with a frame is one page of the range
pub record IsOne (rs : List Slot) (first end i f : ℕ) : Type 0 where
  pub low : first ≤ (get_slot rs i).start
  pub reached : reach first end (get_slot rs i).start ≡ (get_slot rs i).start
  pub next : (get_slot rs (i + 1)).start ≡ (get_slot rs i).start + 1
  pub had : frames_in (slots_of rs) (get_slot rs i).start ≡ Some f

pub is_one : (rs : List Slot) → IsSlotList rs → (first end i f : ℕ) → IsWalk rs first i → i + 1 < length rs → (get_slot rs i).start < end
    → frame_of (get_slot rs i).info ≡ Some f → IsOne rs first end i f
is_one rs ok first end i f walk more high had =
    let next = ok.alone i more (framed_leaf (get_slot rs i).info f had) in
    let after = walk.after more in
    let low : first ≤ (get_slot rs i).start = omega arith in
    record {
      low = low;
      reached = omega arith;
      next = next;
      had = ap frame_of (info_in rs ok i (get_slot rs i).start more (omega arith) (omega arith)) ∙ (frame_of-from (get_slot rs i).info _ ∙ had);
    }

pub list_one : (rs : List Slot) → IsSlotList rs → (first end i f : ℕ) (old new : List Framed) → ListsTo rs first end i old new
    → i + 1 < length rs → (get_slot rs i).start < end → IsOne rs first end i f
    → ListsTo rs first end (i + 1) old (new ++ (record { page = (get_slot rs i).start; frame = f }) ∷ [])
list_one rs ok first end i f old new h more high one =
    let low = one.low in
    let next = one.next in
    let to : (get_slot rs i).start + 1 ≡ reach first end (get_slot rs (i + 1)).start = omega arith in
    record {
      walk = walk_next rs ok first i h.walk more;
      adds = subst (λ n. AddsFrames (frames_in (slots_of rs)) first n old (new ++ (record { page = (get_slot rs i).start; frame = f }) ∷ [])) to
          (adds_then _ first (get_slot rs i).start ((get_slot rs i).start + 1) old new _ low (omega arith)
          (subst (λ n. AddsFrames (frames_in (slots_of rs)) first n old new) one.reached h.adds)
          (adds_one _ (get_slot rs i).start f new one.had));
    }

-- ---- lists that were empty

-- what was added to a list that was empty
pub list_whole : (frame : ℕ → Option ℕ) (first end : ℕ) (old new : List Framed) → old ≡ [] → AddsFrames frame first end old new
    → ListsFrames frame first end new
list_whole frame first end old new e h = subst (ListsFrames frame first end) (sym (h.1 ∙ ap (λ (xs : List Framed). xs ++ h.0) e)) h.2

-- a list that is full has a page
pub list_moves : (frame : ℕ → Option ℕ) (from upto : ℕ) (xs : List Framed) → 0 < length xs → ListsFrames frame from upto xs → from < upto
list_moves frame from upto [] l h = absurd (omega (arith, l))
list_moves frame from upto (x ∷ xs) l h = omega (arith, h.0, h.1)

-- ---- the first page with a frame

-- a page is the first of a range that has a frame, which is a slot of its own
pub record IsFirstFramed (s : Slots) (from end : ℕ) (x : Framed) : Type 0 where
  pub low : from ≤ x.page
  pub high : x.page < end
  pub before : NoFrames s from x.page
  pub had : frame_of (s.info x.page) ≡ Some x.frame

pub first_framed : (s : Slots) (from upto end : ℕ) (old new seen : List Framed) (got : Option Framed) (x : Framed) → old ≡ []
    → AddsFrames (frames_in s) from upto old new → upto ≤ end → seen ≡ new → got ≡ slice_get seen 0 → Some x ≡ got → IsFirstFramed s from end x
first_framed s from upto end old new seen got x none added l same at is =
    go new (list_whole (frames_in s) from upto old new none added) (ap (λ xs. slice_get xs 0) (sym same) ∙ sym at ∙ sym is)
  where
    go : (xs : List Framed) → ListsFrames (frames_in s) from upto xs → slice_get xs 0 ≡ Some x → IsFirstFramed s from end x
    go [] h e = absurd cc
    go (y ∷ ys) h e =
        let same : y ≡ x = cc in
        subst (IsFirstFramed s from end) same (record { low = h.0; high = omega (arith, h.1); before = record { none = h.2 }; had = h.3 })

-- where there is none, none of up to 32 pages has a frame
pub none_framed : (s : Slots) (from upto end : ℕ) (old new seen : List Framed) (got : Option Framed) → old ≡ [] → AddsFrames (frames_in s) from upto old new
    → upto ≤ end → (upto < end → length new ≡ 32) → seen ≡ new → got ≡ slice_get seen 0 → got ≡ None → NoFrames s from end
none_framed s from upto end old new seen got none added l full same at is =
    record { none = go new (list_whole (frames_in s) from upto old new none added) full (ap (λ xs. slice_get xs 0) (sym same) ∙ sym at ∙ is) }
  where
    go : (xs : List Framed) → ListsFrames (frames_in s) from upto xs → (upto < end → length xs ≡ 32) → slice_get xs 0 ≡ None → NoneIn (frames_in s) from end
    go [] h f e =
        let all : upto ≡ end = ⊎_elim (λ (m : upto < end). absurd (let n = f m in omega (arith, n))) (λ (m : end ≤ upto). omega arith) (cases_lt upto end) in
        subst (NoneIn (frames_in s) from) all h
    go (y ∷ ys) h f e = absurd cc

pub framed_slot : (s : Slots) → IsSlotMap s → (from end : ℕ) (x : Framed) → IsFirstFramed s from end x → IsSlot s x.page (x.page + 1)
framed_slot s laws from end x h =
    let edges = laws.alone x.page (framed_leaf (s.info x.page) x.frame h.had) in
    record { ordered = omega arith; begins = edges.0; ends = edges.1; inside = λ p a b. absurd (omega arith) }

pub framed_mapped : (s : Slots) (from end : ℕ) (x : Framed) → IsFirstFramed s from end x → s.info x.page ≡ None → ⊥
framed_mapped s from end x h e = go (s.info x.page) e h.had
  where
    go : (o : Option PageInfo) → o ≡ None → frame_of o ≡ Some x.frame → ⊥
    go None e had = cc
    go (Some info) e had = cc
