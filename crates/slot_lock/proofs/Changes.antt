-- Slots that have another owner or another frame, and a change of the slots of a range
use Rattle.slot_lock.proofs.Words.{◌≡◌, ℕ, ◌+◌, ◌-◌, ◌<◌, ◌≤◌, ◌==◌, ◌||◌, ◌⊎◌, inl, inr, Bool, true, false, cond, List, length, set, Option, Some, None}
use Rattle.slot_lock.proofs.Words.{is_some, refl, sym, ◌∙◌, ap, arith, length-set, PageInfo, Meta, Prot, has, IsPageRange, advance, file_page, info_from}
use Rattle.slot_lock.proofs.Words.{info_file_page, info_with_prot, is_leaf, unused, by_test, has_in, in_has}
use Rattle.slot_lock.specs.declared.plan.Change.{Change}
use Rattle.slot_lock.specs.declared.plan.Change.TheVariants.{Put, Clear, Protect}
use Rattle.slot_lock.specs.declared.slot.Slot.{Slot}
use Rattle.slot_lock.specs.Adding.{IsSoundSlot}
use Rattle.slot_lock.specs.Plan.{IsSoundChange, range_of}
use Rattle.slot_lock.specs.SlotList.{IsSlotList, HasPageAt, IsInner, get_slot, owned_slot, informed_slot, changed_info, changed_slot}
use Rattle.slot_lock.specs.Slots.{Slots, IsCut, HasMeta, between, with_owner, with_info}
use Rattle.slot_lock.specs.Changes.{changed}
use Rattle.slot_lock.specs.ListedSlots.{slots_of}
use Rattle.slot_lock.proofs.Facts.{two}
use Rattle.slot_lock.proofs.Places.{start_most, after_first}
use Rattle.slot_lock.proofs.ListLaws.{file_page_on, is_slot, info_from_twice, info_from_zero}
use Rattle.slot_lock.proofs.Steps.{before_limit, first_slot, slot_by_edge}
use Rattle.slot_lock.proofs.Walks.{info_in}
use Rattle.slot_lock.proofs.Edits.{CanBe, kept_at, elsewhere, set-IsSlotList, set_keeps, set_each, set_edge, same_slots, has_one, has_not}

-- the slot can have what it has
own_sound : (rs : List Slot) → IsSlotList rs → (i : ℕ) → i + 1 < length rs
    → IsSoundSlot (get_slot rs i).start (get_slot rs (i + 1)).start (get_slot rs i).info
own_sound rs ok i h = record { some = ok.rising i h; high = start_most rs ok (i + 1) h; alone = ok.alone i h; fits = ok.fits i h }

-- ---- another owner

abbrev pub owned_list : List Slot → ℕ → Option ℕ → List Slot
owned_list rs i owner = set rs i (owned_slot owner (get_slot rs i))

owned : (rs : List Slot) → IsSlotList rs → (i : ℕ) (owner : Option ℕ) → IsInner rs i → CanBe rs i (owned_slot owner (get_slot rs i))
owned rs ok i owner h = record { inner = h; start = refl; sound = own_sound rs ok i h.before_last }

pub owned-IsSlotList : (rs : List Slot) → IsSlotList rs → (i : ℕ) (owner : Option ℕ) → IsInner rs i → IsSlotList (owned_list rs i owner)
owned-IsSlotList rs ok i owner h = set-IsSlotList rs ok i _ (owned rs ok i owner h)

pub slots_of-owned : (rs : List Slot) → IsSlotList rs → (i : ℕ) (owner : Option ℕ) → IsInner rs i
    → slots_of (owned_list rs i owner) ≡ with_owner (slots_of rs) (get_slot rs i).start (get_slot rs (i + 1)).start owner
slots_of-owned rs ok i owner h =
    let w = owned rs ok i owner h in
    same_slots _ _
    (λ p. set_keeps rs ok i (owned_slot owner (get_slot rs i)) w (λ r. info_from r.info (p - r.start)) refl p)
    (λ p. set_each rs ok i (owned_slot owner (get_slot rs i)) w (λ r. r.owner) p owner (λ _. refl))
    (set_edge rs ok i (owned_slot owner (get_slot rs i)) w)

-- ---- another frame and other cores

abbrev pub informed_list : List Slot → ℕ → PageInfo → List Slot
informed_list rs i info = set rs i (informed_slot (Some info) (get_slot rs i))

same_file_page : (o : Option PageInfo) (info : PageInfo) → HasMeta o info.meta → info_file_page (Some info) ≡ info_file_page o
same_file_page None info h = absurd h
same_file_page (Some old) info h = ap (λ (m : Meta). file_page m.back) (sym h)

pub record IsOnePage (rs : List Slot) (i : ℕ) (info : PageInfo) : Type 0 where
  pub inner : IsInner rs i
  pub one : (get_slot rs (i + 1)).start ≡ (get_slot rs i).start + 1
  pub meta : HasMeta (get_slot rs i).info info.meta

informed : (rs : List Slot) → IsSlotList rs → (i : ℕ) (info : PageInfo) → IsOnePage rs i info → CanBe rs i (informed_slot (Some info) (get_slot rs i))
informed rs ok i info h =
    let was = own_sound rs ok i h.inner.before_last in
    record {
      inner = h.inner;
      start = refl;
      sound = record { some = was.some; high = was.high; alone = λ _. h.one; fits = rw (same_file_page _ info h.meta) was.fits };
    }

pub informed-IsSlotList : (rs : List Slot) → IsSlotList rs → (i : ℕ) (info : PageInfo) → IsOnePage rs i info → IsSlotList (informed_list rs i info)
informed-IsSlotList rs ok i info h = set-IsSlotList rs ok i _ (informed rs ok i info h)

pub slots_of-informed : (rs : List Slot) → IsSlotList rs → (i : ℕ) (info : PageInfo) → IsOnePage rs i info
    → slots_of (informed_list rs i info) ≡ with_info (slots_of rs) (get_slot rs i).start (Some info)
slots_of-informed rs ok i info h =
    same_slots _ _ info_is (λ p. set_keeps rs ok i x w (λ r. r.owner) refl p) (set_edge rs ok i x w)
  where
    x : Slot
    x = informed_slot (Some info) (get_slot rs i)

    w : CanBe rs i x
    w = informed rs ok i info h

    here : (p : ℕ) → has (between (get_slot rs i).start (get_slot rs (i + 1)).start) p ≡ true
        → info_from (Some info) (p - (get_slot rs i).start) ≡ Some info
    here p a =
        let b = has_in (between (get_slot rs i).start (get_slot rs (i + 1)).start) p a in
        let none : p - (get_slot rs i).start ≡ 0 = omega (arith, b.0, b.1, h.one) in
        ap (info_from (Some info)) none ∙ info_from_zero (Some info)

    info_is : (p : ℕ) → (slots_of (informed_list rs i info)).info p ≡ (with_info (slots_of rs) (get_slot rs i).start (Some info)).info p
    info_is p =
        let test : has (between (get_slot rs i).start (get_slot rs (i + 1)).start) p ≡ (p == (get_slot rs i).start) =
        ap (λ n. has (between (get_slot rs i).start n) p) h.one ∙ has_one (get_slot rs i).start p in
        set_each rs ok i x w (λ r. info_from r.info (p - r.start)) p (Some info) (here p) ∙ ap (λ b. cond b (Some info) ((slots_of rs).info p)) test

-- ---- what a change makes of a page

pub prot_fits : (prot : Prot) (o : Option PageInfo) → info_file_page (info_with_prot prot o) ≡ info_file_page o
prot_fits prot None = refl
prot_fits prot (Some info) = refl

some_frame : (a b : Bool) → a || false ≡ true → a || b ≡ true
some_frame true b h = refl
some_frame false b h = cc

pub prot_leaf : (prot : Prot) (o : Option PageInfo) → is_leaf (info_with_prot prot o) ≡ true → is_leaf o ≡ true
prot_leaf prot None h = h
prot_leaf prot (Some info) h = some_frame (is_some info.frame) _ h

pub prot_from : (prot : Prot) (o : Option PageInfo) (n : ℕ) → info_from (info_with_prot prot o) n ≡ info_with_prot prot (info_from o n)
prot_from prot None n = refl
prot_from prot (Some info) n = refl

-- what a page of the range has after the change
abbrev pub page_now : Change → ℕ → Option PageInfo → Option PageInfo
page_now (Put range meta) p info = Some (unused (advance meta (p - range.first)))
page_now (Clear range) p info = None
page_now (Protect range prot) p info = info_with_prot prot info

pub changed_page : (change : Change) (s : Slots) (p : ℕ)
    → (changed s change).info p ≡ cond (has (range_of change) p) (page_now change p (s.info p)) (s.info p)
changed_page (Put range meta) s p = refl
changed_page (Clear range) s p = refl
changed_page (Protect range prot) s p = refl

-- and all else stays
changed_rest : (change : Change) (s : Slots) (p : ℕ) → ((changed s change).owner p ≡ s.owner p) × ((changed s change).edge p ≡ s.edge p)
changed_rest (Put range meta) s p = (refl, refl)
changed_rest (Clear range) s p = (refl, refl)
changed_rest (Protect range prot) s p = (refl, refl)

-- a page of a changed slot
slot_page : (change : Change) (r : Slot) (p : ℕ) → (range_of change).first ≤ r.start → r.start ≤ p
    → info_from (changed_info change r) (p - r.start) ≡ page_now change p (info_from r.info (p - r.start))
slot_page (Put range meta) r p low from =
    let n : r.start - range.first + (p - r.start) ≡ p - range.first = omega arith in
    info_from_twice (Some (unused meta)) (r.start - range.first) (p - r.start) ∙ ap (λ m. Some (unused (advance meta m))) n
slot_page (Clear range) r p low from = refl
slot_page (Protect range prot) r p low from = prot_from prot r.info (p - r.start)

pub sound_pages : (change : Change) → IsSoundChange change → IsPageRange (range_of change)
sound_pages (Put range meta) h = h.pages
sound_pages (Clear range) h = h
sound_pages (Protect range prot) h = h

-- a slot of the range can have what the change makes of it
slot_sound : (change : Change) (r : Slot) (next : ℕ) → IsSoundChange change → (range_of change).first ≤ r.start → next ≤ (range_of change).end
    → IsSoundSlot r.start next r.info → IsSoundSlot r.start next (changed_info change r)
slot_sound (Put range meta) r next h low high was = record {
  some = was.some;
  high = was.high;
  alone = λ leaf. absurd (two _ refl leaf);
  fits = omega (arith, was.some, h.fits, file_page_on (Some (unused meta)) (r.start - range.first));
}
slot_sound (Clear range) r next h low high was = record {
  some = was.some;
  high = was.high;
  alone = λ leaf. absurd (two _ refl leaf);
  fits = omega (arith, was.high);
}
slot_sound (Protect range prot) r next h low high was = record {
  some = was.some;
  high = was.high;
  alone = λ leaf. was.alone (prot_leaf prot r.info leaf);
  fits = rw (prot_fits prot r.info) was.fits;
}

-- ---- a change slot by slot

-- the slots of the range up to the one at i are changed, and the others are as they were
pub record Changing (rs qs : List Slot) (change : Change) (i : ℕ) : Type 0 where
  pub within : i < length rs
  pub from : (range_of change).first ≤ (get_slot rs i).start
  pub by_end : (get_slot rs i).start ≤ (range_of change).end
  pub lengths : length qs ≡ length rs
  pub starts : (k : ℕ) → (get_slot qs k).start ≡ (get_slot rs k).start
  pub rest : (k : ℕ) → i ≤ k → get_slot qs k ≡ get_slot rs k
  pub list : IsSlotList qs
  pub info : (p : ℕ) → (slots_of qs).info p
      ≡ cond (has (between (range_of change).first (get_slot rs i).start) p) (page_now change p ((slots_of rs).info p)) ((slots_of rs).info p)
  pub owner : (p : ℕ) → (slots_of qs).owner p ≡ (slots_of rs).owner p
  pub edge : (p : ℕ) → (slots_of qs).edge p ≡ (slots_of rs).edge p

pub changing_first : (rs : List Slot) → IsSlotList rs → (change : Change) → IsSoundChange change → IsCut (slots_of rs) (range_of change)
    → (i : ℕ) → HasPageAt rs (range_of change).first i → Changing rs rs change i
changing_first rs ok change h cut i at =
    let begins : (get_slot rs i).start ≡ (range_of change).first = first_slot rs ok i _ at cut.begins in
    let pages = sound_pages change h in
    record {
      within = at.within;
      from = omega arith;
      by_end = omega (arith, pages.some);
      lengths = refl;
      starts = λ k. refl;
      rest = λ k _. refl;
      list = ok;
      info = λ p. by_test (λ v. (slots_of rs).info p ≡ v) (has (between (range_of change).first (get_slot rs i).start) p) _ _
          (λ t. let b = has_in (between (range_of change).first (get_slot rs i).start) p t in absurd (omega (arith, b.0, b.1)))
          (λ _. refl);
      owner = λ p. refl;
      edge = λ p. refl;
    }

-- a range and the pages behind it
range_more : {X : Type 0} (first a b p : ℕ) (v x : X) → first ≤ a → a ≤ b
    → cond (has (between a b) p) v (cond (has (between first a) p) v x) ≡ cond (has (between first b) p) v x
range_more first a b p v x l m = by_test (λ y. y ≡ cond (has (between first b) p) v x) (has (between a b) p) v _
    (λ t. let c = has_in (between a b) p t in sym (ap (λ d. cond d v x) (in_has (between first b) p (omega (arith, c.0)) c.1)))
    (λ t. by_test (λ y. y ≡ cond (has (between first b) p) v x) (has (between first a) p) v x
    (λ u. let c = has_in (between first a) p u in sym (ap (λ d. cond d v x) (in_has (between first b) p c.0 (omega (arith, c.1)))))
    (λ u. by_test (λ y. x ≡ y) (has (between first b) p) v x
    (λ w. let c = has_in (between first b) p w in absurd (out (has_not (between a b) p t) (has_not (between first a) p u) c.0 c.1))
    (λ _. refl)))
  where
    out : (p < a) ⊎ (b ≤ p) → (p < first) ⊎ (a ≤ p) → first ≤ p → p < b → ⊥
    out (inl c) (inl d) low high = omega arith
    out (inl c) (inr d) low high = omega arith
    out (inr c) d low high = omega arith

pub changing_next : (rs qs : List Slot) → IsSlotList rs → (change : Change) → IsSoundChange change → IsCut (slots_of rs) (range_of change)
    → (i : ℕ) → Changing rs qs change i → (get_slot rs i).start < (range_of change).end
    → Changing rs (set qs i (changed_slot change (get_slot rs i))) change (i + 1)
changing_next rs qs ok change h cut i so_far l =
    let rise = ok.rising i next in
    let n = length-set qs i x in
    record {
      within = next;
      from = omega (arith, so_far.from);
      by_end = ends;
      lengths = n ∙ so_far.lengths;
      starts = λ k. kept_at qs i x w (λ (r : Slot). r.start) w.start k ∙ so_far.starts k;
      rest = λ k m. elsewhere qs i k x (omega arith) ∙ so_far.rest k (omega arith);
      list = set-IsSlotList qs so_far.list i x w;
      info = λ p. set_each qs so_far.list i x w (λ r. info_from r.info (p - r.start)) p (page_now change p ((slots_of rs).info p)) (here p)
          ∙ ap (λ y. cond (has (between (get_slot qs i).start (get_slot qs (i + 1)).start) p) (page_now change p ((slots_of rs).info p)) y) (so_far.info p)
          ∙ more p;
      owner = λ p. set_keeps qs so_far.list i x w (λ r. r.owner) (ap (λ (r : Slot). r.owner) (sym (so_far.rest i (omega arith)))) p ∙ so_far.owner p;
      edge = λ p. set_edge qs so_far.list i x w p ∙ so_far.edge p;
    }
  where
    x : Slot
    x = changed_slot change (get_slot rs i)

    pages : IsPageRange (range_of change)
    pages = sound_pages change h

    next : i + 1 < length rs
    next = before_limit rs ok i so_far.within (omega (arith, pages.high))

    ends : (get_slot rs (i + 1)).start ≤ (range_of change).end
    ends = slot_by_edge (slots_of rs) _ _ _ (is_slot rs ok i next) cut.ends l

    w : CanBe qs i x
    w = record {
      inner = record {
        after_first = after_first rs ok (get_slot rs i).start i (record { within = so_far.within; from = omega arith; until = λ _. ok.rising i next })
            (omega (arith, pages.low, so_far.from));
        before_last = omega (arith, next, so_far.lengths);
      };
      start = sym (so_far.starts i);
      sound = rw (so_far.starts i, so_far.starts (i + 1)) (slot_sound change (get_slot rs i) (get_slot rs (i + 1)).start h so_far.from ends
          (own_sound rs ok i next));
    }

    here : (p : ℕ) → has (between (get_slot qs i).start (get_slot qs (i + 1)).start) p ≡ true
        → info_from x.info (p - x.start) ≡ page_now change p ((slots_of rs).info p)
    here p t =
        let b = has_in (between (get_slot qs i).start (get_slot qs (i + 1)).start) p t in
        let a : (get_slot rs i).start ≤ p = omega (arith, b.0, so_far.starts i) in
        slot_page change (get_slot rs i) p so_far.from a
        ∙ ap (page_now change p) (sym (info_in rs ok i p next a (omega (arith, b.1, so_far.starts (i + 1)))))

    more : (p : ℕ) → cond (has (between (get_slot qs i).start (get_slot qs (i + 1)).start) p) (page_now change p ((slots_of rs).info p))
        (cond (has (between (range_of change).first (get_slot rs i).start) p) (page_now change p ((slots_of rs).info p)) ((slots_of rs).info p))
        ≡ cond (has (between (range_of change).first (get_slot rs (i + 1)).start) p) (page_now change p ((slots_of rs).info p)) ((slots_of rs).info p)
    more p = rw (so_far.starts i, so_far.starts (i + 1)) (range_more (range_of change).first (get_slot rs i).start (get_slot rs (i + 1)).start p _ _
        so_far.from (let r = ok.rising i next in omega arith))

pub slots_of-changed : (rs qs : List Slot) (change : Change) (i : ℕ) → Changing rs qs change i → (range_of change).end ≤ (get_slot rs i).start
    → slots_of qs ≡ changed (slots_of rs) change
slots_of-changed rs qs change i so_far l =
    let ends : (get_slot rs i).start ≡ (range_of change).end = omega (arith, so_far.by_end) in
    same_slots _ _
    (λ p. so_far.info p ∙ ap (λ n. cond (has (between (range_of change).first n) p) (page_now change p ((slots_of rs).info p)) ((slots_of rs).info p)) ends
    ∙ sym (changed_page change (slots_of rs) p))
    (λ p. so_far.owner p ∙ sym (changed_rest change (slots_of rs) p).0)
    (λ p. so_far.edge p ∙ sym (changed_rest change (slots_of rs) p).1)
