-- Two slots joined
use Rattle.slot_lock.proofs.Words.{◌≡◌, ◌≢◌, ℕ, ◌+◌, ◌-◌, ◌^◌, ◌<◌, ◌≤◌, ⊎_elim, true, false, List, length, Option, is_some, refl, sym, ◌∙◌, ap, arith}
use Rattle.slot_lock.proofs.Words.{remove, cases_lt, cases_eq, PageInfo, put, info_from, info_file_page, is_leaf, put_same, put_other}
use Rattle.std.proofs.lemmas.List.{ext_get_or}
use Rattle.std.proofs.lemmas.List.Edits.{length-remove, get_or-remove_below, get_or-remove_above}
use Rattle.slot_lock.specs.declared.slot.Slot.{Slot}
use Rattle.slot_lock.specs.SlotList.{IsSlotList, HasPageAt, IsInsideSlot, IsJoint, get_slot, empty_slot, tail_from, cut_list}
use Rattle.slot_lock.proofs.Places.{slot_at_is, before_last, start_most}
use Rattle.slot_lock.specs.Slots.{Slots, IsSlotMap, Divides, Joins, CanBeOne, CanJoin, Folds, without_edge}
use Rattle.slot_lock.specs.ListedSlots.{slots_of}
use Rattle.slot_lock.proofs.ListLaws.{info_from_twice, fits_before, info_from_zero, is_leaf-info_from, edge_at, is_slot}
use Rattle.slot_lock.proofs.Cuts.{below, here, above, longer, cut_list-Divides, cut_edge, along_both}
use Rattle.slot_lock.proofs.Edits.{same_slots}
use Rattle.slot_lock.proofs.SlotLaws.{owner_on, info_on}
use Rattle.slot_lock.proofs.Steps.{before_limit, owner_at, slot_by_edge}
use Rattle.slot_lock.proofs.Facts.{two}

-- ---- the list without the second of two slots

-- the slot at i, which is not page 0's, is joined with the next
pub record CanGo (rs : List Slot) (i : ℕ) : Type 0 where
  pub after_first : 1 ≤ i
  pub joint : IsJoint rs i

abbrev pub joined_list : List Slot → ℕ → List Slot
joined_list rs i = remove rs (i + 1)

shorter : (rs : List Slot) (i : ℕ) → CanGo rs i → length (joined_list rs i) + 1 ≡ length rs
shorter rs i h = length-remove rs (i + 1) (omega (arith, h.joint.next))

low : (rs : List Slot) (i : ℕ) → CanGo rs i → (k : ℕ) → k ≤ i → get_slot (joined_list rs i) k ≡ get_slot rs k
low rs i h k l = get_or-remove_below rs (i + 1) empty_slot k (omega arith) (omega (arith, h.joint.next))

high : (rs : List Slot) (i : ℕ) → CanGo rs i → (k : ℕ) → i < k → get_slot (joined_list rs i) k ≡ get_slot rs (k + 1)
high rs i h k l = get_or-remove_above rs (i + 1) empty_slot k (omega arith) (omega (arith, h.joint.next))

-- what holds of each slot and the next
each_next : (P : Slot → Slot → Type 0) (rs : List Slot) (i : ℕ) → CanGo rs i
    → ((k : ℕ) → k + 1 < length rs → P (get_slot rs k) (get_slot rs (k + 1))) → P (get_slot rs i) (get_slot rs (i + 1 + 1))
    → (k : ℕ) → k + 1 < length (joined_list rs i) → P (get_slot (joined_list rs i) k) (get_slot (joined_list rs i) (k + 1))
each_next P rs i h old over k l =
    let n = shorter rs i h in
    ⊎_elim
    (λ (m : k < i). along_both P _ _ _ _ (low rs i h k (omega arith)) (low rs i h (k + 1) (omega arith)) (old k (omega arith)))
    (λ (m : i ≤ k). ⊎_elim
    (λ (e : k ≡ i). along_both P _ _ _ _ (low rs i h k (omega arith) ∙ ap (get_slot rs) e)
    (high rs i h (k + 1) (omega arith) ∙ ap (λ n. get_slot rs (n + 1 + 1)) e) over)
    (λ (ne : k ≢ i). along_both P _ _ _ _ (high rs i h k (omega arith)) (high rs i h (k + 1) (omega arith)) (old (k + 1) (omega arith)))
    (cases_eq k i))
    (cases_lt k i)

pub joined-IsSlotList : (rs : List Slot) → IsSlotList rs → (i : ℕ) → CanGo rs i → IsSlotList (joined_list rs i)
joined-IsSlotList rs ok i h =
    let n = shorter rs i h in
    let a = ok.rising i (omega (arith, h.joint.next)) in
    let b = ok.rising (i + 1) (omega (arith, h.joint.next)) in
    let most = start_most rs ok (i + 1 + 1) (omega (arith, h.joint.next)) in
    let next = ok.fits (i + 1) (omega (arith, h.joint.next)) in
    let same = ap info_file_page h.joint.one.goes_on in
    let zero_is = low rs i h 0 (omega arith) in
    let back : length (joined_list rs i) - 1 + 1 ≡ length rs - 1 = omega (arith, h.joint.next) in
    let last_is : get_slot (joined_list rs i) (length (joined_list rs i) - 1) ≡ get_slot rs (length rs - 1) = high rs i h
    (length (joined_list rs i) - 1) (omega (arith, h.joint.next)) ∙ ap (get_slot rs) back in
    record {
      some = omega (arith, h.after_first, h.joint.next);
      rising = each_next (λ r s. r.start < s.start) rs i h ok.rising (omega arith);
      zero_first = ap (λ (r : Slot). r.start) zero_is ∙ ok.zero_first;
      one_second = ap (λ (r : Slot). r.start) (low rs i h 1 h.after_first) ∙ ok.one_second;
      zero_unmapped = ap (λ (r : Slot). is_some r.info) zero_is ∙ ok.zero_unmapped;
      zero_free = ap (λ (r : Slot). is_some r.owner) zero_is ∙ ok.zero_free;
      limit_last = ap (λ (r : Slot). r.start) last_is ∙ ok.limit_last;
      limit_unmapped = ap (λ (r : Slot). is_some r.info) last_is ∙ ok.limit_unmapped;
      limit_free = ap (λ (r : Slot). is_some r.owner) last_is ∙ ok.limit_free;
      fits = each_next (λ r s. info_file_page r.info + (s.start - r.start) ≤ 2 ^ 35) rs i h ok.fits
          (fits_before (get_slot rs i).info ((get_slot rs (i + 1)).start - (get_slot rs i).start)
          ((get_slot rs (i + 1 + 1)).start - (get_slot rs i).start) (2 ^ 35) (omega arith) (omega arith) (omega arith));
      alone = each_next (λ r s. is_leaf r.info ≡ true → s.start ≡ r.start + 1) rs i h ok.alone (λ leaf. absurd (two _ h.joint.one.no_leaf leaf));
    }

joined-IsInside : (rs : List Slot) → IsSlotList rs → (i : ℕ) → CanGo rs i → IsInsideSlot (joined_list rs i) i (get_slot rs (i + 1)).start
joined-IsInside rs ok i h = record {
  inner = record { after_first = h.after_first; before_last = let n = shorter rs i h in omega (arith, h.joint.next) };
  above = rw (low rs i h i (omega arith)) (ok.rising i (omega (arith, h.joint.next)));
  below = rw (high rs i h (i + 1) (omega arith)) (ok.rising (i + 1) (omega (arith, h.joint.next)));
}

same_slot : (r : Slot) (start : ℕ) (owner : Option ℕ) (info : Option PageInfo) → start ≡ r.start → owner ≡ r.owner → info ≡ r.info
    → record { start = start; owner = owner; info = info } ≡ r
same_slot r start owner info a b c = λ j. record { start = a j; owner = b j; info = c j }

-- a cut where they were joined gives the two slots back
cut_again : (rs : List Slot) → IsSlotList rs → (i : ℕ) → CanGo rs i → cut_list (joined_list rs i) i (get_slot rs (i + 1)).start ≡ rs
cut_again rs ok i h = ext_get_or empty_slot _ rs lengths (λ k l. each k)
  where
    inside : IsInsideSlot (joined_list rs i) i (get_slot rs (i + 1)).start
    inside = joined-IsInside rs ok i h

    lengths : length (cut_list (joined_list rs i) i (get_slot rs (i + 1)).start) ≡ length rs
    lengths = longer _ i _ inside ∙ shorter rs i h

    tail : tail_from (get_slot (joined_list rs i) i) (get_slot rs (i + 1)).start ≡ get_slot rs (i + 1)
    tail = ap (λ r. tail_from r (get_slot rs (i + 1)).start) (low rs i h i (omega arith))
        ∙ same_slot (get_slot rs (i + 1)) _ _ _ refl (h.joint.one.free ∙ sym h.joint.one.next_free) (sym h.joint.one.goes_on)

    each : (k : ℕ) → get_slot (cut_list (joined_list rs i) i (get_slot rs (i + 1)).start) k ≡ get_slot rs k
    each k = ⊎_elim
        (λ (m : i < k). ⊎_elim
        (λ (e : k ≡ i + 1). ap (get_slot (cut_list (joined_list rs i) i (get_slot rs (i + 1)).start)) e
        ∙ (here _ i _ inside ∙ (tail ∙ ap (get_slot rs) (sym e))))
        (λ (ne : k ≢ i + 1).
        let back : k - 1 + 1 ≡ k = omega arith in
        ap (get_slot (cut_list (joined_list rs i) i (get_slot rs (i + 1)).start)) (sym back)
        ∙ (above _ i _ inside (k - 1) (omega arith) ∙ (high rs i h (k - 1) (omega arith) ∙ ap (get_slot rs) back)))
        (cases_eq k (i + 1)))
        (λ (m : k ≤ i). below _ i _ inside k m ∙ low rs i h k m)
        (cases_lt i k)

-- one edge fewer
pub slots_of-joined : (rs : List Slot) → IsSlotList rs → (i : ℕ) → CanGo rs i
    → slots_of (joined_list rs i) ≡ without_edge (slots_of rs) (get_slot rs (i + 1)).start
slots_of-joined rs ok i h = same_slots _ _ (λ p. sym (ap (λ f. f p) divided.info)) (λ p. sym (ap (λ f. f p) divided.owners)) edge
  where
    qs_ok : IsSlotList (joined_list rs i)
    qs_ok = joined-IsSlotList rs ok i h

    divided : Divides (slots_of (joined_list rs i)) (slots_of rs) (get_slot (joined_list rs i) i).owner (get_slot rs (i + 1)).start
    divided = rw (cut_again rs ok i h) at (cut_list-Divides _ qs_ok i _ (joined-IsInside rs ok i h))

    edge : (p : ℕ) → (slots_of (joined_list rs i)).edge p ≡ put (slots_of rs).edge (get_slot rs (i + 1)).start false p
    edge p = ⊎_elim
        (λ (e : p ≡ (get_slot rs (i + 1)).start). rw e (divided.was_inside ∙ sym (put_same (slots_of rs).edge (get_slot rs (i + 1)).start false)))
        (λ (ne : p ≢ (get_slot rs (i + 1)).start). sym (cut_edge _ qs_ok i _ (joined-IsInside rs ok i h) p ne)
        ∙ (ap (λ qs. (slots_of qs).edge p) (cut_again rs ok i h)
        ∙ sym (put_other (slots_of rs).edge (get_slot rs (i + 1)).start false p ne)))
        (cases_eq p (get_slot rs (i + 1)).start)

-- ---- which slots can be joined

pub next_info : (rs : List Slot) → IsSlotList rs → (k : ℕ) → k + 1 < length rs → (slots_of rs).info (get_slot rs k).start ≡ (get_slot rs k).info
next_info rs ok k h =
    let slot = slot_at_is rs ok (get_slot rs k).start k (record { within = omega arith; from = omega arith; until = λ l. ok.rising k l }) in
    let none : (get_slot rs k).start - (get_slot rs k).start ≡ 0 = omega arith in
    ap (λ (r : Slot). info_from r.info ((get_slot rs k).start - r.start)) slot
    ∙ (ap (info_from (get_slot rs k).info) none ∙ info_from_zero (get_slot rs k).info)

page_info : (rs : List Slot) → IsSlotList rs → (page i : ℕ) → HasPageAt rs page i
    → (slots_of rs).info page ≡ info_from (get_slot rs i).info (page - (get_slot rs i).start)
page_info rs ok page i at = ap (λ (r : Slot). info_from r.info (page - r.start)) (slot_at_is rs ok page i at)

on_info : (rs : List Slot) → IsSlotList rs → (page i end : ℕ) → HasPageAt rs page i → page ≤ end
    → info_from ((slots_of rs).info page) (end - page) ≡ info_from (get_slot rs i).info (end - (get_slot rs i).start)
on_info rs ok page i end at l =
    let n : page - (get_slot rs i).start + (end - page) ≡ end - (get_slot rs i).start = omega (arith, at.from) in
    ap (λ o. info_from o (end - page)) (page_info rs ok page i at)
    ∙ (info_from_twice (get_slot rs i).info (page - (get_slot rs i).start) (end - page) ∙ ap (info_from (get_slot rs i).info) n)

pub joint-CanJoin : (rs : List Slot) → IsSlotList rs → (page i : ℕ) → HasPageAt rs page i → IsJoint rs i → CanJoin (slots_of rs) page (get_slot rs (i + 1)).start
joint-CanJoin rs ok page i at h =
    let within : i + 1 < length rs = omega (arith, h.next) in
    let rise = ok.rising (i + 1) (omega (arith, h.next)) in
    let most = start_most rs ok (i + 1 + 1) (omega (arith, h.next)) in
    let until = at.until within in
    let next_at : HasPageAt rs (get_slot rs (i + 1)).start (i + 1) = record { within = within; from = omega arith; until = λ _. rise } in
    record {
      above = until;
      next = λ p a b. (is_slot rs ok i within).inside p (omega (arith, at.from)) b;
      edge = edge_at rs ok (i + 1) within;
      below_limit = omega arith;
      free = owner_at rs ok page i at ∙ h.one.free;
      next_free = owner_at rs ok _ (i + 1) next_at ∙ h.one.next_free;
      no_leaf = ap is_leaf (page_info rs ok page i at) ∙ (is_leaf-info_from (get_slot rs i).info _ ∙ h.one.no_leaf);
      next_no_leaf = ap is_leaf (next_info rs ok (i + 1) (omega (arith, h.next))) ∙ h.one.next_no_leaf;
      goes_on = next_info rs ok (i + 1) (omega (arith, h.next)) ∙ (h.one.goes_on ∙ sym (on_info rs ok page i _ at (omega arith)));
    }

pub CanJoin-joint : (rs : List Slot) → IsSlotList rs → (page i end : ℕ) → page < 2 ^ 35 → HasPageAt rs page i → CanJoin (slots_of rs) page end → IsJoint rs i
CanJoin-joint rs ok page i end valid at h =
    let within = before_last rs ok page i at valid in
    let until = at.until within in
    let by : (get_slot rs (i + 1)).start ≤ end = slot_by_edge (slots_of rs) _ _ end (is_slot rs ok i within) h.edge (omega (arith, at.from, h.above)) in
    let same : end ≡ (get_slot rs (i + 1)).start = ⊎_elim
    (λ (l : (get_slot rs (i + 1)).start < end). absurd (two _ (h.next _ until l) (edge_at rs ok (i + 1) within)))
    (λ (l : end ≤ (get_slot rs (i + 1)).start). omega arith)
    (cases_lt (get_slot rs (i + 1)).start end) in
    let more = before_limit rs ok (i + 1) within (omega (arith, h.below_limit)) in
    let rise = ok.rising (i + 1) more in
    let next_at : HasPageAt rs (get_slot rs (i + 1)).start (i + 1) = record { within = within; from = omega arith; until = λ _. rise } in
    let info = next_info rs ok (i + 1) more in
    record {
      next = omega arith;
      one = record {
        free = sym (owner_at rs ok page i at) ∙ h.free;
        next_free = sym (owner_at rs ok _ (i + 1) next_at) ∙ (ap (slots_of rs).owner (sym same) ∙ h.next_free);
        no_leaf = sym (is_leaf-info_from (get_slot rs i).info _) ∙ (sym (ap is_leaf (page_info rs ok page i at)) ∙ h.no_leaf);
        next_no_leaf = sym (ap is_leaf info) ∙ (ap (λ p. is_leaf ((slots_of rs).info p)) (sym same) ∙ h.next_no_leaf);
        goes_on = sym info
            ∙ (ap (slots_of rs).info (sym same)
            ∙ (h.goes_on ∙ (on_info rs ok page i end at (omega (arith, h.above))
            ∙ ap (λ n. info_from (get_slot rs i).info (n - (get_slot rs i).start)) same)));
      };
    }

-- ---- a fold joins

-- what is joined could be one
could : (s : Slots) → IsSlotMap s → (page at : ℕ) → 1 ≤ page → CanJoin s page at → CanBeOne s at
could s laws page at low h =
    let above = h.above in
    let limit = h.below_limit in
    let back : page + (at - 1 - page) ≡ at - 1 = omega arith in
    let next : at - 1 - page + 1 ≡ at - page = omega arith in
    let owner : s.owner (at - 1) ≡ s.owner page = rw back at (owner_on s laws page at (at - 1 - page) low (omega arith) h.next (omega arith)) in
    let info : s.info (at - 1) ≡ info_from (s.info page) (at - 1 - page) = rw back at
    (info_on s laws page at (at - 1 - page) low (omega arith) h.next (omega arith)) in
    record {
      page = (omega arith, limit);
      free = owner ∙ h.free;
      next_free = h.next_free;
      no_leaf = ap is_leaf info ∙ (is_leaf-info_from (s.info page) _ ∙ h.no_leaf);
      next_no_leaf = h.next_no_leaf;
      goes_on = h.goes_on ∙ (ap (info_from (s.info page)) (sym next) ∙ (sym (info_from_twice (s.info page) (at - 1 - page) 1)
          ∙ ap (λ o. info_from o 1) (sym info)));
    }

pub Folds-Joins : (s t : Slots) → IsSlotMap s → (page : ℕ) → 1 ≤ page → Folds s t page → Joins s t
Folds-Joins s t laws page low h = record {
  info = ap (λ (u : Slots). u.info) h.now;
  owners = ap (λ (u : Slots). u.owner) h.now;
  kept = λ p e. ap (λ (u : Slots). u.edge p) h.now ∙ kept p e;
  elsewhere = λ p ne. ap (λ (u : Slots). u.edge p) h.now ∙ put_other s.edge h.at false p (λ same. ne (ap s.owner same ∙ h.could.next_free));
  removed = (h.at, h.could.edge, ap (λ (u : Slots). u.edge h.at) h.now ∙ put_same s.edge h.at false);
  could = λ p e f. ⊎_elim
      (λ (same : p ≡ h.at). rw same (could s laws page h.at low h.could))
      (λ (ne : p ≢ h.at). absurd (two (s.edge p) (sym (put_other s.edge h.at false p ne) ∙ (sym (ap (λ (u : Slots). u.edge p) h.now) ∙ f)) e))
      (cases_eq p h.at);
}
  where
    kept : (p : ℕ) → s.edge p ≡ false → put s.edge h.at false p ≡ false
    kept p e = ⊎_elim
        (λ (same : p ≡ h.at). rw same (put_same s.edge h.at false))
        (λ (ne : p ≢ h.at). put_other s.edge h.at false p ne ∙ e)
        (cases_eq p h.at)
