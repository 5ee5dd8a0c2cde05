-- What held pages lose, slot after slot
use Rattle.slot_lock.proofs.Words.{◌≡◌, ℕ, suc, ◌+◌, ◌-◌, ◌<◌, ◌≤◌, nat_lt, max, not, ◌==◌, ◌||◌, ⊎_elim, Bool, true, false, cond, List, [], ◌∷◌}
use Rattle.slot_lock.proofs.Words.{◌++◌, map, take}
use Rattle.slot_lock.proofs.Words.{get_or, length, Option, Some, None, is_some, refl, sym, ap, ◌∙◌, subst, arith, cases_lt, nat_tests, All, MutexGuard}
use Rattle.slot_lock.proofs.Words.{PageInfo, PageRange, has, has_in, in_has, members, frame_of, is_leaf, is_recorded, map-append}
use Rattle.slot_lock.proofs.Words.{take_all, take_more, All-append}
use Rattle.std.specs.Prelude.{option_to_list}
use Rattle.std.proofs.lemmas.List.{append_assoc, append-nil}
use Rattle.vm_base.specs.Cores.{either}
use Rattle.vm_base.proofs.CoreSets.{members-empty}
use Rattle.slot_lock.specs.declared.framed.Framed.{Framed}
use Rattle.slot_lock.specs.Framed.{ListsFrames, frames_in}
use Rattle.slot_lock.proofs.Facts.{two, either_left, either_right, other_test}
use Rattle.slot_lock.proofs.Listing.{framed_leaf}
use Rattle.slot_lock.proofs.Walks.{frame_of-from, is_recorded-from}
use Rattle.live_levels.specs.Slots.{SlotView, content_at}
use Rattle.live_tree.specs.Guards.{slot_of}
use Rattle.live_tree.specs.Held.{SideBySide}
use Rattle.live_tree.specs.Losing.{AreLost, IsAlone, content_in}
use Rattle.live_tree.specs.Shown.{shown, slot_at}
use Rattle.live_tree.proofs.Lending.{cond_false, cond_true}
use Rattle.live_tree.proofs.Pushed.{all_of_one}

-- ---- the slots that begin in the range

abbrev one : ℕ → Option ℕ → List Framed
one page None = []
one page (Some f) = (record { page = page; frame = f }) ∷ []

-- those that have a frame
abbrev pub framed : PageRange → List SlotView → List Framed
framed range [] = []
framed range (s ∷ ss) = one s.first (frame_of (content_in range s)) ++ framed range ss

-- whether the core is recorded in one
abbrev pub recorded : PageRange → List SlotView → ℕ → Bool
recorded range [] core = false
recorded range (s ∷ ss) core = is_recorded (content_in range s) core || recorded range ss core

frames_of_one : (page : ℕ) (o : Option ℕ) → map (λ (x : Framed). x.frame) (one page o) ≡ option_to_list o
frames_of_one page None = refl
frames_of_one page (Some f) = refl

framed_more : (range : PageRange) (ss : List SlotView) (s : SlotView)
    → framed range (ss ++ s ∷ []) ≡ framed range ss ++ one s.first (frame_of (content_in range s))
framed_more range [] s = append-nil (one s.first (frame_of (content_in range s)))
framed_more range (x ∷ xs) s =
    let here = one x.first (frame_of (content_in range x)) in
    let last = one s.first (frame_of (content_in range s)) in
    ap (λ l. here ++ l) (framed_more range xs s) ∙ sym (append_assoc here (framed range xs) last)

or_false : (a : Bool) → a || false ≡ a
or_false true = refl
or_false false = refl

or_assoc : (a b c : Bool) → a || (b || c) ≡ (a || b) || c
or_assoc true b c = refl
or_assoc false b c = refl

recorded_more : (range : PageRange) (ss : List SlotView) (s : SlotView) (core : ℕ)
    → recorded range (ss ++ s ∷ []) core ≡ (recorded range ss core || is_recorded (content_in range s) core)
recorded_more range [] s core = or_false (is_recorded (content_in range s) core)
recorded_more range (x ∷ xs) s core =
    let here = is_recorded (content_in range x) core in
    ap (λ b. here || b) (recorded_more range xs s core) ∙ or_assoc here (recorded range xs core) (is_recorded (content_in range s) core)

-- the first i slots of the guards were looked at
pub record LostSoFar (range : PageRange) (gs : List (Option (MutexGuard SlotView))) (i set : ℕ) (list : List ℕ) : Type 0 where
  pub alone : All IsAlone (map slot_of (take i gs))
  pub cores : (core : ℕ) → members set core ≡ recorded range (map slot_of (take i gs)) core
  pub frames : list ≡ map (λ (x : Framed). x.frame) (framed range (map slot_of (take i gs)))

pub lost_none : (range : PageRange) (gs : List (Option (MutexGuard SlotView))) (cores : ℕ) (frames : List ℕ) → cores ≡ 0 → frames ≡ []
    → LostSoFar range gs 0 cores frames
lost_none range gs cores frames e f = record {
  alone = λ k d l. absurd (omega (arith, l));
  cores = λ core. ap (λ n. members n core) e ∙ members-empty core;
  frames = f;
}

pub lost_more : (range : PageRange) (gs : List (Option (MutexGuard SlotView))) (i : ℕ) (g : Option (MutexGuard SlotView)) (cores more : ℕ)
    (frames list : List ℕ) → i < length gs → g ≡ get_or gs i g → IsAlone (slot_of g)
    → members more ≡ either (members cores) (is_recorded (content_in range (slot_of g)))
    → list ≡ frames ++ option_to_list (frame_of (content_in range (slot_of g))) → LostSoFar range gs i cores frames
    → LostSoFar range gs (i + 1) more list
lost_more range gs i g cores more frames list lt is alone joined longer h =
    let s = slot_of g in
    let ss = map slot_of (take i gs) in
    let f : Framed → ℕ = λ (x : Framed). x.frame in
    let grown : map slot_of (take (i + 1) gs) ≡ ss ++ s ∷ [] =
    ap (map slot_of) (take_more gs i g lt) ∙ (map-append slot_of (take i gs) (get_or gs i g ∷ [])
    ∙ ap (λ x. ss ++ slot_of x ∷ []) (sym is)) in
    record {
      alone = rw grown (All-append IsAlone ss (s ∷ []) h.alone (all_of_one IsAlone s alone));
      cores = λ core. ap (λ m. m core) joined ∙ (ap (λ b. b || is_recorded (content_in range s) core) (h.cores core)
          ∙ (sym (recorded_more range ss s core) ∙ ap (λ l. recorded range l core) (sym grown)));
      frames = longer ∙ (ap (λ l. l ++ option_to_list (frame_of (content_in range s))) h.frames
          ∙ (ap (λ l. map f (framed range ss) ++ l) (sym (frames_of_one s.first (frame_of (content_in range s))))
          ∙ (sym (map-append f (framed range ss) (one s.first (frame_of (content_in range s))))
          ∙ (ap (map f) (sym (framed_more range ss s)) ∙ ap (λ l. map f (framed range l)) (sym grown)))));
    }

-- ---- what a page has, by the slot that has it

here_is : (s : SlotView) (ss : List SlotView) (p : ℕ) → p < s.first + s.count → (shown (s ∷ ss)).info p ≡ content_at s p
here_is s ss p h = ap (λ t. content_at t p) (cond_true (nat_lt p (s.first + s.count)) s (slot_at ss p) (grind (arith, nat_tests)))

later_is : (s : SlotView) (ss : List SlotView) (p : ℕ) → s.first + s.count ≤ p → (shown (s ∷ ss)).info p ≡ (shown ss).info p
later_is s ss p h = ap (λ t. content_at t p) (cond_false (nat_lt p (s.first + s.count)) s (slot_at ss p) (grind (arith, nat_tests)))

leaf_of : (has_frame : Bool) (cores core : ℕ) → members cores core ≡ true → has_frame || not (cores == 0) ≡ true
leaf_of has_frame cores core e =
    let some : cores ≡ 0 → ⊥ = λ z. two (members 0 core) (members-empty core) (subst (λ n. members n core ≡ true) z e) in
    either_right has_frame (not (cores == 0)) (rw (other_test cores 0 some) refl)

recorded_leaf : (o : Option PageInfo) (core : ℕ) → is_recorded o core ≡ true → is_leaf o ≡ true
recorded_leaf None core e = absurd cc
recorded_leaf (Some info) core e = leaf_of (is_some info.frame) info.cores core e

unframed : (o : Option PageInfo) → is_leaf o ≡ false → frame_of o ≡ None
unframed None e = refl
unframed (Some info) e = go info.frame (not (info.cores == 0)) e
  where
    go : (frame : Option ℕ) (b : Bool) → is_some frame || b ≡ false → frame ≡ None
    go None b e = refl
    go (Some f) b e = absurd cc

one_page : (s : SlotView) → IsAlone s → is_leaf s.content ≡ true → s.count ≡ 1
one_page s h leaf =
    let some = h.some in
    ⊎_elim (λ (l : 1 < s.count). absurd (two (is_leaf s.content) (h.alone l) leaf)) (λ (l : s.count ≤ 1). omega (arith, some, l)) (cases_lt 1 s.count)

-- where a slot's content is looked at, the slot begins in the range
framed_in : (b : Bool) (o : Option PageInfo) (f : ℕ) → frame_of (cond b o None) ≡ Some f → (b ≡ true) × (frame_of o ≡ Some f)
framed_in true o f e = (refl, e)
framed_in false o f e = absurd cc

recorded_in : (b : Bool) (o : Option PageInfo) (core : ℕ) → is_recorded (cond b o None) core ≡ true → (b ≡ true) × (is_recorded o core ≡ true)
recorded_in true o core e = (refl, e)
recorded_in false o core e = absurd cc

-- ---- frames

gap_before : (frame : ℕ → Option ℕ) (first mid end : ℕ) (xs : List Framed) → first ≤ mid
    → ((p : ℕ) → first ≤ p → p < mid → p < end → frame p ≡ None) → ListsFrames frame mid end xs → ListsFrames frame first end xs
gap_before frame first mid end [] le gap h = λ p low high. ⊎_elim (λ (l : p < mid). gap p low l high) (λ (l : mid ≤ p). h p l high) (cases_lt p mid)
gap_before frame first mid end (x ∷ xs) le gap h =
    let from = h.0 in
    let upto = h.1 in (
      omega (arith, le, from),
      h.1,
      λ p low high. ⊎_elim (λ (l : p < mid). gap p low l (omega (arith, high, upto))) (λ (l : mid ≤ p). h.2 p l high) (cases_lt p mid),
      h.3,
      h.4,
    )

-- with one slot more on the left
module _ (range : PageRange) (first end : ℕ) (s : SlotView) (ss : List SlotView) (begins : s.first ≡ first) (own : IsAlone s) where
  lists_next : (frame : ℕ → Option ℕ) → range.end ≤ end → ((p : ℕ) → first ≤ p → p < end → frame p ≡ frames_in (shown (s ∷ ss)) p)
      → ListsFrames frame (max (first + s.count) range.first) range.end (framed range ss)
      → ListsFrames frame (max first range.first) range.end (framed range (s ∷ ss))
  lists_next frame high same rest = with_one (frame_of (content_in range s)) refl
    where
      of_slot : (p : ℕ) → first ≤ p → p < first + s.count → p < end → frame p ≡ frame_of s.content
      of_slot p low lt below = same p low below ∙ (ap frame_of (here_is s ss p (omega (arith, begins, lt))) ∙ frame_of-from s.content (p - s.first))

      -- a page of the range whose slot shows no frame there
      bare : frame_of (content_in range s) ≡ None → (p : ℕ) → max first range.first ≤ p → p < max (first + s.count) range.first → p < range.end
          → frame p ≡ None
      bare e p low lt below =
          of_slot p (omega (arith, low)) (omega (arith, low, lt)) (omega (arith, below, high)) ∙ ⊎_elim
          (λ (l : 1 < s.count). unframed s.content (own.alone l))
          (λ (l : s.count ≤ 1).
          let at : has range s.first ≡ true = in_has range s.first (omega (arith, begins, low, lt, l)) (omega (arith, begins, low, lt, l, below)) in
          sym (ap frame_of (cond_true (has range s.first) s.content None at)) ∙ e)
          (cases_lt 1 s.count)

      with_one : (o : Option ℕ) → frame_of (content_in range s) ≡ o → ListsFrames frame (max first range.first) range.end (one s.first o ++ framed range ss)
      with_one None e = gap_before frame (max first range.first) (max (first + s.count) range.first) range.end (framed range ss) (omega arith) (bare e) rest
      with_one (Some f) e =
          let found = framed_in (has range s.first) s.content f e in
          let within = has_in range s.first found.0 in
          let low = within.0 in
          let lt = within.1 in
          let one_ : s.count ≡ 1 = one_page s own (framed_leaf s.content f found.1) in
          let next : max (first + s.count) range.first ≡ s.first + 1 = omega (arith, begins, low, one_) in (
            omega (arith, begins, low),
            lt,
            λ p a b. absurd (omega (arith, begins, a, b)),
            of_slot s.first (omega (arith, begins)) (omega (arith, begins, one_)) (omega (arith, lt, high)) ∙ found.1,
            subst (λ n. ListsFrames frame n range.end (framed range ss)) next rest,
          )

lists : (range : PageRange) (first end : ℕ) (ss : List SlotView) (frame : ℕ → Option ℕ) → SideBySide first end ss → All IsAlone ss → range.end ≤ end
    → ((p : ℕ) → first ≤ p → p < end → frame p ≡ frames_in (shown ss) p)
    → ListsFrames frame (max first range.first) range.end (framed range ss)
lists range first end [] frame side alone high same = λ p low lt. absurd (omega (arith, side, high, low, lt))
lists range first end (s ∷ ss) frame side alone high same =
    let begins = side.0 in
    lists_next range first end s ss side.0 (alone 0 s (omega arith)) frame high same
    (lists range (first + s.count) end ss frame side.1 (λ k d l. alone (suc k) d (omega (arith, l))) high
    (λ p low lt. same p (omega (arith, low)) lt ∙ ap frame_of (later_is s ss p (omega (arith, begins, low)))))

-- ---- cores

-- a page of the slots, in the range, on which the core is recorded
pub record UserFrom (range : PageRange) (ss : List SlotView) (first core : ℕ) : Type 0 where
  pub page : ℕ
  pub from : first ≤ page
  pub has : has range page ≡ true
  pub is : is_recorded ((shown ss).info page) core ≡ true

-- with one slot more on the left
module _ (range : PageRange) (first : ℕ) (s : SlotView) (ss : List SlotView) (begins : s.first ≡ first) (own : IsAlone s) (core : ℕ) where
  only_next : (recorded range ss core ≡ true → UserFrom range ss (first + s.count) core)
      → (b : Bool) → is_recorded (content_in range s) core ≡ b → b || recorded range ss core ≡ true → UserFrom range (s ∷ ss) first core
  only_next rest true is e =
      let found = recorded_in (has range s.first) s.content core is in
      let some = own.some in
      record {
        page = s.first;
        from = omega (arith, begins);
        has = found.0;
        is = ap (λ o. is_recorded o core) (here_is s ss s.first (omega (arith, some)))
            ∙ (is_recorded-from s.content (s.first - s.first) core ∙ found.1);
      }
  only_next rest false is e =
      let u = rest e in
      let from = u.from in
      record {
        page = u.page;
        from = omega (arith, from);
        has = u.has;
        is = ap (λ o. is_recorded o core) (later_is s ss u.page (omega (arith, begins, from))) ∙ u.is;
      }

  here_user : (p : ℕ) → first ≤ p → p < s.first + s.count → has range p ≡ true → is_recorded ((shown (s ∷ ss)).info p) core ≡ true
      → is_recorded (content_in range s) core ≡ true
  here_user p low lt within is =
      let on : is_recorded s.content core ≡ true =
      sym (ap (λ o. is_recorded o core) (here_is s ss p lt) ∙ is_recorded-from s.content (p - s.first) core) ∙ is in
      let one_ : s.count ≡ 1 = one_page s own (recorded_leaf s.content core on) in
      let at : p ≡ s.first = omega (arith, begins, low, lt, one_) in
      let first_in : has range s.first ≡ true = subst (λ q. has range q ≡ true) at within in
      ap (λ o. is_recorded o core) (cond_true (has range s.first) s.content None first_in) ∙ on

only : (range : PageRange) (first end : ℕ) (ss : List SlotView) (core : ℕ) → SideBySide first end ss → All IsAlone ss
    → recorded range ss core ≡ true → UserFrom range ss first core
only range first end [] core side alone e = absurd cc
only range first end (s ∷ ss) core side alone e = only_next range first s ss side.0 (alone 0 s (omega arith)) core
    (only range (first + s.count) end ss core side.1 (λ k d l. alone (suc k) d (omega (arith, l)))) (is_recorded (content_in range s) core) refl e

all_users : (range : PageRange) (first end : ℕ) (ss : List SlotView) (core : ℕ) → SideBySide first end ss → All IsAlone ss → range.end ≤ end
    → (p : ℕ) → first ≤ p → has range p ≡ true → is_recorded ((shown ss).info p) core ≡ true → recorded range ss core ≡ true
all_users range first end [] core side alone high p low within is = let lt = (has_in range p within).1 in absurd (omega (arith, side, high, low, lt))
all_users range first end (s ∷ ss) core side alone high p low within is =
    let begins = side.0 in
    ⊎_elim
    (λ (lt : p < s.first + s.count). either_left (is_recorded (content_in range s) core) (recorded range ss core)
    (here_user range first s ss side.0 (alone 0 s (omega arith)) core p low lt within is))
    (λ (le : s.first + s.count ≤ p). either_right (is_recorded (content_in range s) core) (recorded range ss core)
    (all_users range (first + s.count) end ss core side.1 (λ k d l. alone (suc k) d (omega (arith, l))) high p (omega (arith, begins, le)) within
    (sym (ap (λ o. is_recorded o core) (later_is s ss p le)) ∙ is)))
    (cases_lt p (s.first + s.count))

-- ---- all slots

pub lost_all : (range : PageRange) (gs : List (Option (MutexGuard SlotView))) (i cores : ℕ) (frames : List ℕ) (first end : ℕ)
    → length gs ≤ i → SideBySide first end (map slot_of gs) → first ≤ range.first → range.end ≤ end → LostSoFar range gs i cores frames
    → AreLost (shown (map slot_of gs)) range cores frames
lost_all range gs i cores frames first end le side low high h =
    let ss = map slot_of gs in
    let all : take i gs ≡ gs = take_all i gs le in
    let alone : All IsAlone ss = subst (λ l. All IsAlone (map slot_of l)) all h.alone in
    let from : max first range.first ≡ range.first = omega (arith, low) in
    record {
      cores = λ core.
          let same : members cores core ≡ recorded range ss core = h.cores core ∙ ap (λ l. recorded range (map slot_of l) core) all in (
            λ m. let u = only range first end ss core side alone (sym same ∙ m) in (u.page, u.has, u.is),
            λ u. same ∙ all_users range first end ss core side alone high u.0
                (let within = (has_in range u.0 u.1).0 in omega (arith, low, within)) u.1 u.2,
          );
      frames = (
        framed range ss,
        subst (λ n. ListsFrames (frames_in (shown ss)) n range.end (framed range ss)) from
            (lists range first end ss (frames_in (shown ss)) side alone high (λ p a b. refl)),
        h.frames ∙ ap (λ l. map (λ (x : Framed). x.frame) (framed range (map slot_of l))) all,
      );
    }
