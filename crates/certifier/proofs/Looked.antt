-- Looks at all slots
use Rattle.machine_model.proofs.Words.{◌≡◌, ◌≢◌, ◌⊎◌, ⊎_elim, inl, inr, ℕ, ◌<◌, ◌≤◌, ◌+◌, ◌-◌, ◌^◌, Bool, true, false, List, [], ◌∷◌, ◌++◌, length, get_or}
use Rattle.machine_model.proofs.Words.{set, Option, Some, None, refl, sym, ap, ◌∙◌, subst, arith, not, cases_lt, get_or-set_other, get_or-set_same}
use Rattle.machine_model.proofs.Words.{get_or_default, length-set, PageInfo, PageRange, has, has_in, in_has, some_has}
use Rattle.std.proofs.Common.{IsTrue, ◌↔◌, IfSome, IfNone}
use Rattle.std.proofs.lemmas.Bool.{cases_eq}
use Rattle.std.proofs.lemmas.List.{get_or_append_left, get_or_push, length-append}
use Rattle.live_levels.specs.declared.close.SlotHistory.{SlotHistory}
use Rattle.certifier.specs.declared.looks.Look.{Look}
use Rattle.certifier.specs.Histories.{AllGoAlong, AreDated, AreInOrder, DiffersBelow, GoesAlong, HasBegun, HasContent}
use Rattle.certifier.specs.Histories.{IsFirstAstray, IsFirstPageOf, IsPageOf, Strays}
use Rattle.certifier.specs.Looks.{AreApplied, AreLooked, IsCaughtUp, IsFirstMarked, IsLooked, IsSeen, NoneMarked}

-- a test has one outcome
pub two : (b : Bool) → b ≡ true → b ≡ false → ⊥
two b e f = cc

not_so : (b : Bool) (P : Type 0) → not b ≡ true → IsTrue b ↔ P → ¬ P
not_so true P e h = absurd cc
not_so false P e h = λ p. two false (h.1 p) refl

so : (b : Bool) (P : Type 0) → not b ≡ false → IsTrue b ↔ P → P
so true P e h = h.0 refl
so false P e h = absurd cc

-- ---- slots that are caught up

-- the looks from one place up to another have come to the ticket
abbrev pub CaughtFrom : ℕ → ℕ → ℕ → List Look → Type 0
CaughtFrom t from at looks = (k : ℕ) (l : Look) → from ≤ k → k < at → IsCaughtUp t (get_or looks k l)

pub caught_more : (t from at : ℕ) (looks : List Look) (look : Look) → at < length looks → IsCaughtUp t look → CaughtFrom t from at looks
    → CaughtFrom t from (at + 1) (set looks at look)
caught_more t from at looks look lt one h k l low less = ⊎_elim
    (λ (e : k ≡ at). subst (λ j. IsCaughtUp t (get_or (set looks at look) j l)) (sym e) (subst (IsCaughtUp t) (sym (get_or-set_same looks at look l lt)) one))
    (λ (e : k ≡ at → ⊥). subst (IsCaughtUp t) (sym (get_or-set_other looks at k look l e)) (h k l low (omega (arith, e, less))))
    (cases_eq k at)

-- ---- what an option may have

pub some_map : {X : Type 0} (o : Option X) (P Q : X → Type 0) → ((x : X) → P x → Q x) → IfSome o P → IfSome o Q
some_map None P Q f h = tt
some_map (Some x) P Q f h = f x h

pub none_map : {X : Type 0} (o : Option X) (P Q : Type 0) → (P → Q) → IfNone o P → IfNone o Q
none_map None P Q f h = f h
none_map (Some x) P Q f h = tt

module _ {A : Type 0} where
  -- ---- slots in order

  -- the slots up to one that ends by the page do so too
  pub ends_by : (slots : List (SlotHistory A)) (page middle : ℕ) (s : SlotHistory A) → AreInOrder slots → middle < length slots → s ≡ get_or slots middle s
      → s.first + s.count ≤ page → (k : ℕ) (d : SlotHistory A) → k < middle + 1 → (get_or slots k d).first + (get_or slots k d).count ≤ page
  ends_by slots page middle s order lt is by k d less = ⊎_elim
      (λ (l : k < middle).
      let before = order k middle d l lt in
      let here : (get_or slots middle d).first ≡ s.first = ap (λ (x : SlotHistory A). x.first) (get_or_default slots middle d s lt ∙ sym is) in
      omega (arith, before, here, by))
      (λ (l : middle ≤ k).
      let e : k ≡ middle = omega (arith, l, less) in
      let here : get_or slots middle d ≡ s = get_or_default slots middle d s lt ∙ sym is in
      subst (λ j. (get_or slots j d).first + (get_or slots j d).count ≤ page) (sym e) (rw here by))
      (cases_lt k middle)

  -- those from one on that begins after the range have none of its pages
  pub beyond : (slots : List (SlotHistory A)) (range : PageRange) (at : ℕ) (s : SlotHistory A) → AreInOrder slots → at < length slots → s ≡ get_or slots at s
      → range.end ≤ s.first → (k : ℕ) (d : SlotHistory A) (page : ℕ) → at ≤ k → k < length slots → has range page ≡ true → ¬ IsPageOf (get_or slots k d) page
  beyond slots range at s order lt is past k d page from less in_range of =
      let until = (has_in range page in_range).1 in
      let low = of.from in
      let first : (get_or slots at d).first ≡ s.first = ap (λ (x : SlotHistory A). x.first) (get_or_default slots at d s lt ∙ sym is) in
      ⊎_elim
      (λ (m : at < k). let next = order at k d m less in omega (arith, next, first, past, until, low))
      (λ (m : k ≤ at).
      let e : k ≡ at = omega (arith, m, from) in
      let here : (get_or slots k d).first ≡ s.first = ap (λ j. (get_or slots j d).first) e ∙ first in
      omega (arith, here, past, until, low))
      (cases_lt at k)

  pub caught_all : (slots : List (SlotHistory A)) (range : PageRange) (looks : List Look) (t from at : ℕ)
      → ((k : ℕ) (d : SlotHistory A) → k < from → (get_or slots k d).first + (get_or slots k d).count ≤ range.first)
      → CaughtFrom t from at looks
      → ((k : ℕ) (d : SlotHistory A) (page : ℕ) → at ≤ k → k < length slots → has range page ≡ true → ¬ IsPageOf (get_or slots k d) page)
      → (k : ℕ) (d : SlotHistory A) (l : Look) (page : ℕ) → k < length slots → has range page ≡ true → IsPageOf (get_or slots k d) page
      → IsCaughtUp t (get_or looks k l)
  caught_all slots range looks t from at before caught after k d l page less in_range of = ⊎_elim
      (λ (m : k < from).
      let end = before k d m in
      let low = (has_in range page in_range).0 in
      let until = of.until in
      absurd (omega (arith, end, low, until)))
      (λ (m : from ≤ k). ⊎_elim
      (λ (b : k < at). caught k l m b)
      (λ (b : at ≤ k). absurd (after k d page b less in_range of))
      (cases_lt k at))
      (cases_lt k from)

  -- ---- marks

  -- a slot that isn't marked, and one without valid pages
  pub good_more : (slots : List (SlotHistory A)) (looks : List Look) (at : ℕ) (look : Look) → length looks ≡ length slots → at < length slots
      → look ≡ get_or looks at look → look.is_bad ≡ false → NoneMarked at slots looks → NoneMarked (at + 1) slots looks
  good_more slots looks at look count lt there good before k d l page less of = ⊎_elim
      (λ (m : k < at). before k d l page m of)
      (λ (m : at ≤ k).
      let e : k ≡ at = omega (arith, m, less) in
      let one : get_or looks k l ≡ look = ap (λ j. get_or looks j l) e ∙ get_or_default looks at l look (omega (arith, count, lt)) ∙ sym there in
      ap (λ (x : Look). x.is_bad) one ∙ good)
      (cases_lt k at)

  pub empty_more : (slots : List (SlotHistory A)) (looks : List Look) (at : ℕ) (s : SlotHistory A) → at < length slots
      → s ≡ get_or slots at s → ((page : ℕ) → ¬ IsPageOf s page) → NoneMarked at slots looks → NoneMarked (at + 1) slots looks
  empty_more slots looks at s lt is none before k d l page less of = ⊎_elim
      (λ (m : k < at). before k d l page m of)
      (λ (m : at ≤ k).
      let e : k ≡ at = omega (arith, m, less) in
      let slot : get_or slots k d ≡ s = ap (λ j. get_or slots j d) e ∙ get_or_default slots at d s lt ∙ sym is in
      absurd (none page (subst (λ x. IsPageOf x page) slot of)))
      (cases_lt k at)

  pub marked_here : (slots : List (SlotHistory A)) (looks : List Look) (at page : ℕ) (s : SlotHistory A) (look : Look) → length looks ≡ length slots
      → at < length slots → s ≡ get_or slots at s → look ≡ get_or looks at look → look.is_bad ≡ true → IsFirstPageOf s page → NoneMarked at slots looks
      → IsFirstMarked slots looks page
  marked_here slots looks at page s look count lt is there bad first before = record {
    at = at;
    within = lt;
    marked = λ l. ap (λ (x : Look). x.is_bad) (get_or_default looks at l look (omega (arith, count, lt)) ∙ sym there) ∙ bad;
    page_of = λ d. subst (λ x. IsFirstPageOf x page) (sym (get_or_default slots at d s lt ∙ sym is)) first;
    before = before;
  }

module _ {A : Type 0} (n : ℕ) where
  -- ---- one more event

  -- what is known of a slot after the event, which changes it only where the look has come to it
  step_seen : (maps new : ℕ → ℕ → Option PageInfo) (now then : ℕ → Option PageInfo) (t : ℕ) (changes : ℕ → Bool) (s : SlotHistory A) (look : Look)
      → ((u page : ℕ) → u < t → new u page ≡ maps u page) → ((page : ℕ) → new t page ≡ then page)
      → ((page : ℕ) → changes page ≡ false → then page ≡ now page)
      → ((page : ℕ) → changes page ≡ true → IsPageOf s page → t ≤ look.seen)
      → IsSeen n maps now t look.seen s look → IsSeen n new then (t + 1) look.seen s look
  step_seen maps new now then t changes s look old last same caught h = record {
    dated = h.dated;
    applied = h.applied;
    seen = let l = h.seen in omega (arith, l);
    agrees = λ u less begun page has. let l = h.seen in old u page (omega (arith, l, less)) ∙ h.agrees u less begun page has;
    still = λ u page from to has. ⊎_elim
        (λ (l : u < t). old u page l ∙ h.still u page from l has ∙ sym (kept u page from l has (changes page) refl))
        (λ (l : t ≤ u). let e : u ≡ t = omega (arith, l, to) in subst (λ v. new v page ≡ then page) (sym e) (last page))
        (cases_lt u t);
  }
    where
      kept : (u page : ℕ) → look.seen ≤ u → u < t → IsPageOf s page → (b : Bool) → changes page ≡ b → then page ≡ now page
      kept u page from less has true e = let c = caught page e has in absurd (omega (arith, c, from, less))
      kept u page from less has false e = same page e

  step_bad : (maps new : ℕ → ℕ → Option PageInfo) (t : ℕ) (s : SlotHistory A) → ((u page : ℕ) → u < t → new u page ≡ maps u page)
      → (¬ AreDated n s.changes.items) ⊎ DiffersBelow t maps s → (¬ AreDated n s.changes.items) ⊎ DiffersBelow (t + 1) new s
  step_bad maps new t s old (inl h) = inl h
  step_bad maps new t s old (inr h) = inr (record {
    ticket = h.ticket;
    page = h.page;
    within = let l = h.within in omega (arith, l);
    begun = h.begun;
    has = h.has;
    differs = λ e. h.differs (sym (old h.ticket h.page h.within) ∙ e);
  })

  pub step_looked : (maps new : ℕ → ℕ → Option PageInfo) (now then : ℕ → Option PageInfo) (t : ℕ) (range : Option PageRange) (slots : List (SlotHistory A))
      (looks : List Look) → ((u page : ℕ) → u < t → new u page ≡ maps u page) → ((page : ℕ) → new t page ≡ then page)
      → ((page : ℕ) → some_has range page ≡ false → then page ≡ now page)
      → ((k : ℕ) (d : SlotHistory A) (l : Look) (page : ℕ) → k < length slots → some_has range page ≡ true → IsPageOf (get_or slots k d) page
      → IsCaughtUp t (get_or looks k l))
      → AreLooked n maps now t slots looks → AreLooked n new then (t + 1) slots looks
  step_looked maps new now then t range slots looks old last same caught h = record {
    count = h.count;
    each = λ k d l lt. record {
      bad = λ e. step_bad maps new t (get_or slots k d) old ((h.each k d l lt).bad e);
      good = λ e. step_seen maps new now then t (some_has range) (get_or slots k d) (get_or looks k l) old last same
          (λ page has of. caught k d l page lt has of e) ((h.each k d l lt).good e);
    };
  }

  -- ---- one look

  pub look_set : (maps : ℕ → ℕ → Option PageInfo) (now : ℕ → Option PageInfo) (t : ℕ) (slots : List (SlotHistory A)) (looks : List Look) (at : ℕ)
      (s : SlotHistory A) (look : Look) → at < length slots → s ≡ get_or slots at s → IsLooked n maps now t s look → AreLooked n maps now t slots looks
      → AreLooked n maps now t slots (set looks at look)
  look_set maps now t slots looks at s look lt is one h = record {
    count = length-set looks at look ∙ h.count;
    each = λ k d l less. ⊎_elim
        (λ (e : k ≡ at).
        let count = h.count in
        let slot : get_or slots at d ≡ s = get_or_default slots at d s lt ∙ sym is in
        let here : get_or (set looks at look) at l ≡ look = get_or-set_same looks at look l (omega (arith, count, lt)) in
        subst (λ j. IsLooked n maps now t (get_or slots j d) (get_or (set looks at look) j l)) (sym e)
        (rw (slot, here) one))
        (λ (e : k ≡ at → ⊥). rw (get_or-set_other looks at k look l e) (h.each k d l less))
        (cases_eq k at);
  }

  -- the look at the place
  pub look_there : (maps : ℕ → ℕ → Option PageInfo) (now : ℕ → Option PageInfo) (t : ℕ) (slots : List (SlotHistory A)) (looks : List Look) (at : ℕ)
      (s : SlotHistory A) (look : Look) → at < length slots → s ≡ get_or slots at s → look ≡ get_or looks at look → AreLooked n maps now t slots looks
      → IsLooked n maps now t s look
  look_there maps now t slots looks at s look lt is there h = rw (is, there) (h.each at s look lt)

  -- ---- the first looks

  -- each slot so far has its look
  pub record AreOpened (maps : ℕ → ℕ → Option PageInfo) (now : ℕ → Option PageInfo) (at : ℕ) (slots : List (SlotHistory A)) (looks : List Look) : Type 0 where
    pub count : length looks ≡ at
    pub each : (k : ℕ) (d : SlotHistory A) (l : Look) → k < at → IsLooked n maps now 0 (get_or slots k d) (get_or looks k l)

  pub opened_one : (maps : ℕ → ℕ → Option PageInfo) (now : ℕ → Option PageInfo) (s : SlotHistory A) (look : Look) → look.applied ≡ 0 → look.content ≡ None
      → look.seen ≡ 0 → (b : Bool) → look.is_bad ≡ not b → IsTrue b ↔ AreDated n s.changes.items → IsLooked n maps now 0 s look
  opened_one maps now s look none empty zero b bad dated = record {
    bad = λ e. inl (not_so b _ (sym bad ∙ e) dated);
    good = λ e. record {
      dated = so b _ (sym bad ∙ e) dated;
      applied = record {
        within = omega (arith, none);
        content = rw none empty;
        before = λ k less. absurd (omega (arith, none, less));
        later = λ k from to. omega (arith, zero);
      };
      seen = omega (arith, zero);
      agrees = λ u less. absurd (omega (arith, zero, less));
      still = λ u page from to. absurd (omega (arith, to));
    };
  }

  pub opened_more : (maps : ℕ → ℕ → Option PageInfo) (now : ℕ → Option PageInfo) (at : ℕ) (slots : List (SlotHistory A)) (looks : List Look) (s : SlotHistory A)
      (look : Look) → at < length slots → s ≡ get_or slots at s → IsLooked n maps now 0 s look → AreOpened maps now at slots looks
      → AreOpened maps now (at + 1) slots (looks ++ look ∷ [])
  opened_more maps now at slots looks s look lt is one h = record {
    count = let c = h.count in let e : length (looks ++ look ∷ []) ≡ length looks + 1 = length-append looks (look ∷ []) in omega (arith, c, e);
    each = λ k d l less. ⊎_elim
        (λ (m : k < at). let c = h.count in rw (get_or_append_left looks (look ∷ []) l k (omega (arith, c, m))) (h.each k d l m))
        (λ (m : at ≤ k).
        let e : k ≡ at = omega (arith, m, less) in
        let slot : get_or slots at d ≡ s = get_or_default slots at d s lt ∙ sym is in
        subst (λ j. IsLooked n maps now 0 (get_or slots j d) (get_or (looks ++ look ∷ []) j l)) (sym e)
        (rw (slot, get_or_push looks look l at h.count) one))
        (cases_lt k at);
  }

  pub opened : (maps : ℕ → ℕ → Option PageInfo) (now : ℕ → Option PageInfo) (at : ℕ) (slots : List (SlotHistory A)) (looks : List Look)
      → length slots ≡ at → AreOpened maps now at slots looks → AreLooked n maps now 0 slots looks
  opened maps now at slots looks e h = record { count = h.count ∙ sym e; each = λ k d l less. h.each k d l (omega (arith, e, less)) }

  -- ---- the end

  went_along : (maps : ℕ → ℕ → Option PageInfo) (now : ℕ → Option PageInfo) (s : SlotHistory A) (look : Look) → n ≤ look.seen
      → IsSeen n maps now n look.seen s look → GoesAlong n maps s
  went_along maps now s look end h = record { dated = h.dated; agrees = λ t less begun. h.agrees t (omega (arith, end, less)) begun }

  pub along : (maps : ℕ → ℕ → Option PageInfo) (now : ℕ → Option PageInfo) (end : ℕ) (slots : List (SlotHistory A)) (looks : List Look) → end ≤ length slots
      → ((k : ℕ) (d : SlotHistory A) (l : Look) (page : ℕ) → k < length slots → IsPageOf (get_or slots k d) page → IsCaughtUp n (get_or looks k l))
      → AreLooked n maps now n slots looks → NoneMarked end slots looks → (l : Look)
      → (k : ℕ) (d : SlotHistory A) (page : ℕ) → k < end → IsPageOf (get_or slots k d) page → GoesAlong n maps (get_or slots k d)
  along maps now end slots looks le caught h none l k d page lt has =
      let good = none k d l page lt has in
      let within : k < length slots = omega (arith, le, lt) in
      went_along maps now (get_or slots k d) (get_or looks k l) (caught k d l page within has good) ((h.each k d l within).good good)

  pub all_caught : (slots : List (SlotHistory A)) (looks : List Look)
      → ((k : ℕ) (d : SlotHistory A) (l : Look) (page : ℕ) → k < length slots → has (record { first = 0; end = 2 ^ 35 }) page ≡ true
      → IsPageOf (get_or slots k d) page → IsCaughtUp n (get_or looks k l))
      → (k : ℕ) (d : SlotHistory A) (l : Look) (page : ℕ) → k < length slots → IsPageOf (get_or slots k d) page → IsCaughtUp n (get_or looks k l)
  all_caught slots looks h k d l page lt of = let v = of.valid.1 in h k d l page lt (in_has (record { first = 0; end = 2 ^ 35 }) page (omega arith) v) of

  pub astray_first : (maps : ℕ → ℕ → Option PageInfo) (now : ℕ → Option PageInfo) (slots : List (SlotHistory A)) (looks : List Look) (page : ℕ) (l : Look)
      → ((k : ℕ) (d : SlotHistory A) (l : Look) (page : ℕ) → k < length slots → IsPageOf (get_or slots k d) page → IsCaughtUp n (get_or looks k l))
      → AreLooked n maps now n slots looks → IsFirstMarked slots looks page → IsFirstAstray n maps slots page
  astray_first maps now slots looks page l caught h first = record {
    at = first.at;
    within = first.within;
    page_of = first.page_of;
    strays = λ d. (h.each first.at d l first.within).bad (first.marked l);
    before = λ k d p less has.
        let w = first.within in
        along maps now first.at slots looks (omega (arith, w)) caught h first.before l k d p less has;
  }
