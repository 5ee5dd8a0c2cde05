-- Which slot a division divides, and laws of divisions and joins
use Rattle.slot_lock.proofs.Words.{◌≡◌, ℕ, zero, suc, ◌+◌, ◌-◌, ◌^◌, ◌<◌, ◌≤◌, ◌⊎◌, inl, inr, ⊎_elim, Bool, true, false, Option, Some, None, refl, sym, ◌∙◌}
use Rattle.slot_lock.proofs.Words.{ap, arith, cases_lt, PageRange, has, IsPage, info_from, is_leaf, by_test}
use Rattle.slot_lock.specs.Slots.{Slots, IsSlot, IsSlotMap, Divides, DividesAs, OnlySlotOf, Splits, Cuts, IsCrossed, Joins, CanBeOne}
use Rattle.slot_lock.specs.Slots.{Crosses, crossed_edge, divided, between}
use Rattle.slot_lock.proofs.Edits.{has_below, has_above}
use Rattle.slot_lock.proofs.Facts.{two}

-- ---- the slot that is divided

-- no edge changes outside it
outside : (s t : Slots) (slot : PageRange) (begins : ℕ → Bool) → t ≡ divided s slot begins → (p : ℕ) → (p ≤ slot.first) ⊎ (slot.end ≤ p) → t.edge p ≡ s.edge p
outside s t slot begins now p o = ap (λ (u : Slots). u.edge p) now
    ∙ by_test (λ x. x ≡ s.edge p) (has (between (slot.first + 1) slot.end) p) (begins p) (s.edge p)
    (λ t. absurd (two _ (not_in o) t))
    (λ _. refl)
  where
    not_in : (p ≤ slot.first) ⊎ (slot.end ≤ p) → has (between (slot.first + 1) slot.end) p ≡ false
    not_in (inl l) = has_below (between (slot.first + 1) slot.end) p (omega arith)
    not_in (inr l) = has_above (between (slot.first + 1) slot.end) p l

pub only_of : (parts : PageRange → ℕ → ℕ → Bool) (s t : Slots) (at page : ℕ) (d : DividesAs parts s t at) → d.slot.first ≤ page
    → page < d.slot.end → OnlySlotOf s t page
only_of parts s t at page d low high = record {
  slot = d.slot;
  is_slot = d.is_slot;
  low = low;
  high = high;
  outside = outside s t d.slot (parts d.slot at) d.now;
}

-- it has the page that it crosses
pub only_at : (parts : PageRange → ℕ → ℕ → Bool) (s t : Slots) (at : ℕ) → DividesAs parts s t at → OnlySlotOf s t at
only_at parts s t at d = let a = d.above in only_of parts s t at at d (omega arith) d.below

crossed_first : (s : Slots) (range : PageRange) → s.edge range.first ≡ false → crossed_edge s range ≡ range.first
crossed_first s range h = rw h refl

crossed_end : (s : Slots) (range : PageRange) → s.edge range.first ≡ true → crossed_edge s range ≡ range.end
crossed_end s range h = rw h refl

pub at_first : (parts : PageRange → ℕ → ℕ → Bool) (s t : Slots) (range : PageRange) → s.edge range.first ≡ false
    → DividesAs parts s t range.first → DividesAs parts s t (crossed_edge s range)
at_first parts s t range h d = rw h d

pub at_end : (parts : PageRange → ℕ → ℕ → Bool) (s t : Slots) (range : PageRange) → s.edge range.first ≡ true
    → DividesAs parts s t range.end → DividesAs parts s t (crossed_edge s range)
at_end parts s t range h d = rw h d

-- it has the cursor
pub only_cursor : (parts : PageRange → ℕ → ℕ → Bool) (s t : Slots) (cursor end : ℕ) → cursor < end → Crosses s cursor end
    → DividesAs parts s t (crossed_edge s (between cursor end)) → OnlySlotOf s t cursor
only_cursor parts s t cursor end some crosses d = go (s.edge cursor) refl
  where
    past : s.edge cursor ≡ true → Crosses s cursor end → (p : ℕ) → cursor < p → p ≤ end → s.edge p ≡ false
    past e (inl h) = absurd (two _ h e)
    past e (inr h) = h

    from : (e : s.edge cursor ≡ true) → d.slot.first < end → d.slot.first ≤ cursor
    from e l = ⊎_elim
        (λ (m : cursor < d.slot.first). absurd (two _ (past e crosses d.slot.first m (omega arith)) d.is_slot.begins))
        (λ (m : d.slot.first ≤ cursor). m)
        (cases_lt cursor d.slot.first)

    go : (b : Bool) → s.edge cursor ≡ b → OnlySlotOf s t cursor
    go true e =
        let at = crossed_end s (between cursor end) e in
        let above = d.above in
        let below = d.below in
        only_of parts s t (crossed_edge s (between cursor end)) cursor d (from e (omega arith)) (omega arith)
    go false e =
        let at = crossed_first s (between cursor end) e in
        let above = d.above in
        let below = d.below in
        only_of parts s t (crossed_edge s (between cursor end)) cursor d (omega arith) (omega arith)

pub splits : (parts : PageRange → ℕ → ℕ → Bool) (s t : Slots) (cursor end at : ℕ) → cursor < end → s.owner cursor ≡ None
    → Crosses s cursor end → IsPage at → Divides s t None at → DividesAs parts s t (crossed_edge s (between cursor end))
    → Splits s t cursor end
splits parts s t cursor end at some free crosses page divides exact = record {
  was_free = free;
  crosses = crosses;
  divides = (at, page, divides);
  only = only_cursor parts s t cursor end some crosses exact;
}

pub cuts : (parts : PageRange → ℕ → ℕ → Bool) (s t : Slots) (core : ℕ) (range : PageRange) (at : ℕ) → IsCrossed s range → IsPage at
    → Divides s t (Some core) at → DividesAs parts s t (crossed_edge s range) → Cuts s t core range
cuts parts s t core range at crossed page divides exact = record {
  crossed = crossed;
  divides = (at, page, divides);
  only = only_at parts s t (crossed_edge s range) exact;
}

-- ---- divisions and joins of a slot map give slot maps

pub divided-IsSlotMap : (s t : Slots) (owner : Option ℕ) (at : ℕ) → IsSlotMap s → Divides s t owner at → IsSlotMap t
divided-IsSlotMap s t owner at laws d = record {
  limit = d.kept (2 ^ 35) laws.limit;
  unmapped = λ p h. info p ∙ laws.unmapped p h;
  free = λ p h. own p ∙ laws.free p h;
  same_owner = λ p h e. own (p + 1) ∙ (laws.same_owner p h (was (p + 1) e (s.edge (p + 1)) refl) ∙ sym (own p));
  goes_on = λ p h e. info (p + 1) ∙ (laws.goes_on p h (was (p + 1) e (s.edge (p + 1)) refl) ∙ ap (λ o. info_from o 1) (sym (info p)));
  alone = λ p h. let a = laws.alone p (sym (ap is_leaf (info p)) ∙ h) in (d.kept p a.0, d.kept (p + 1) a.1);
  fits = λ p. rw (info p) (laws.fits p);
}
  where
    info : (p : ℕ) → t.info p ≡ s.info p
    info p = ap (λ f. f p) d.info

    own : (p : ℕ) → t.owner p ≡ s.owner p
    own p = ap (λ f. f p) d.owners

    was : (p : ℕ) → t.edge p ≡ false → (b : Bool) → s.edge p ≡ b → s.edge p ≡ false
    was p e true h = absurd (two _ e (d.kept p h))
    was p e false h = h

pub joined-IsSlotMap : (s t : Slots) → IsSlotMap s → Joins s t → IsSlotMap t
joined-IsSlotMap s t laws j = record {
  limit = stays (2 ^ 35) laws.limit (λ c. let l = c.page.1 in omega arith);
  unmapped = λ p h. info p ∙ laws.unmapped p h;
  free = λ p h. own p ∙ laws.free p h;
  same_owner = λ p h e. own (p + 1) ∙ (owner p h e (s.edge (p + 1)) refl ∙ sym (own p));
  goes_on = λ p h e. info (p + 1) ∙ (on p h e (s.edge (p + 1)) refl ∙ ap (λ o. info_from o 1) (sym (info p)));
  alone = λ p h.
      let leaf = sym (ap is_leaf (info p)) ∙ h in
      let a = laws.alone p leaf in
      (stays p a.0 (λ c. two _ c.next_no_leaf leaf), stays (p + 1) a.1 (λ c. two _ (ap (λ n. is_leaf (s.info n)) (sym (back p)) ∙ c.no_leaf) leaf));
  fits = λ p. rw (info p) (laws.fits p);
}
  where
    info : (p : ℕ) → t.info p ≡ s.info p
    info p = ap (λ f. f p) j.info

    own : (p : ℕ) → t.owner p ≡ s.owner p
    own p = ap (λ f. f p) j.owners

    back : (p : ℕ) → p + 1 - 1 ≡ p
    back p = omega arith

    -- an edge stays where no join could take it away
    stays : (p : ℕ) → s.edge p ≡ true → (CanBeOne s p → ⊥) → t.edge p ≡ true
    stays p h never = go (t.edge p) refl
      where
        go : (b : Bool) → t.edge p ≡ b → t.edge p ≡ true
        go true e = e
        go false e = absurd (never (j.could p h e))

    owner : (p : ℕ) → IsPage p → t.edge (p + 1) ≡ false → (b : Bool) → s.edge (p + 1) ≡ b → s.owner (p + 1) ≡ s.owner p
    owner p h e true was = let c = j.could (p + 1) was e in c.next_free ∙ (sym c.free ∙ ap s.owner (back p))
    owner p h e false was = laws.same_owner p h was

    on : (p : ℕ) → IsPage p → t.edge (p + 1) ≡ false → (b : Bool) → s.edge (p + 1) ≡ b → s.info (p + 1) ≡ info_from (s.info p) 1
    on p h e true was = let c = j.could (p + 1) was e in c.goes_on ∙ ap (λ n. info_from (s.info n) 1) (back p)
    on p h e false was = laws.goes_on p h was

-- ---- a slot that begins at an edge and ends by a later one

pub slot_by : (s : Slots) (first end : ℕ) → first < end → s.edge first ≡ true → s.edge end ≡ true → (b : ℕ) × IsSlot s first b × (b ≤ end)
slot_by s first end some begins ends = go (end - first - 1) (omega arith) (λ p a b. absurd (omega arith))
  where
    slot : (b : ℕ) → first < b → s.edge b ≡ true → ((p : ℕ) → first < p → p < b → s.edge p ≡ false) → IsSlot s first b
    slot b l e inside = record { ordered = l; begins = begins; ends = e; inside = inside }

    -- no slot begins after the first page but in so many last ones
    go : (left : ℕ) → first + 1 + left ≤ end → ((p : ℕ) → first < p → p < end - left → s.edge p ≡ false) → (b : ℕ) × IsSlot s first b × (b ≤ end)
    go zero h inside = (end, slot end some ends (λ p a b. inside p a (omega arith)), omega arith)
    go (suc left) h inside = at (s.edge (end - suc left)) refl (go left (omega arith))
      where
        more : s.edge (end - suc left) ≡ false → (p : ℕ) → first < p → p < end - left → s.edge p ≡ false
        more e p a b = ⊎_elim
            (λ (l : p < end - suc left). inside p a l)
            (λ (l : end - suc left ≤ p). let same : end - suc left ≡ p = omega arith in rw same at e)
            (cases_lt p (end - suc left))

        at : (b : Bool) → s.edge (end - suc left) ≡ b → (((p : ℕ) → first < p → p < end - left → s.edge p ≡ false) → (b : ℕ)
            × IsSlot s first b × (b ≤ end)) → (b : ℕ) × IsSlot s first b × (b ≤ end)
        at true e rest = (end - suc left, slot (end - suc left) (omega arith) e inside, omega arith)
        at false e rest = rest (more e)
