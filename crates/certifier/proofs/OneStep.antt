-- A state has one next state by an event, and one outcome, where slots are joined and divided in one way
use Rattle.machine_model.proofs.Words.{◌≡◌, ◌⊎◌, ℕ, ◌+◌, ◌<◌, Bool, true, false, cond, inl, inr, refl, sym, subst, ap, ◌∙◌, arith, Option, Some, None}
use Rattle.machine_model.proofs.Words.{nat_lt, PageRange, Request, IsPage, is_mapped, entries, Slots, Unlocks, between, Place, Target, Change, Goal, Touch}
use Rattle.machine_model.proofs.Words.{Back, Anon, Shared, Private, Access, Counts, Takes, Begin, Inc, Flushing, Reviewing, Took, asked, is_some, tlb_at}
use Rattle.machine_model.proofs.Words.{range_of, goal_range}
use Rattle.machine_model.proofs.Words.{Idles}
use Rattle.machine_model.proofs.Words.{Becomes, to, World, Hardware, Begins, Goes, Acts, is_here, core_of, with_event, event_limit, Step, AwaitsNobody}
use Rattle.machine_model.proofs.Words.{Awaits, FillsBacked, FillsFromFile, TakesThisFrame, GuessesThisRun, TakesWindow, TakesMessage, GivesUp, can_give_up}
use Rattle.machine_model.proofs.Words.{ReportsFlush, ReportsReview, after_call, after_commit, after_frame, after_zeros, after_first_copy, after_caching}
use Rattle.machine_model.proofs.Words.{after_sharing, after_copy, after_give_up, after_walk, after_eviction, with_hardware, can_walk, guess_of, back_to}
use Rattle.machine_model.proofs.Words.{let_go, held_after, locked_to, length, after_cuts, Locked, Held, pages_from, frame_of}
use Rattle.machine_model.specs.declared.event.Event.{Event}
use Rattle.machine_model.specs.declared.event.Event.TheVariants.{Call, Go}
use Rattle.machine_model.specs.declared.event.Outcome.{Outcome}
use Rattle.machine_model.specs.declared.event.Outcome.TheVariants.{Stepped, Idle, Answered, Full, Wait}
use Rattle.machine_model.specs.declared.phase.Phase.{Phase}
use Rattle.machine_model.specs.declared.phase.Phase.TheVariants.{Free, Check, Lock, Guess, Find, Cut, Decide, Post, Acks, Unlock, Answer, Try, Settle}
use Rattle.machine_model.specs.declared.phase.Phase.TheVariants.{Want, Fill, CopyPost, CopyAcks, Install, Release}
use Rattle.vm_base.specs.declared.rights.Access.TheVariants.{Store}
use Rattle.vm_base.specs.Runs.{lies_in}
use Rattle.refcache.specs.Sound.{AreReached}
use Rattle.refcache.specs.declared.reports.Flush.{Flush}
use Rattle.refcache.specs.declared.reports.Flush.TheVariants as flush
use Rattle.refcache.specs.declared.reports.Review.{Review}
use Rattle.refcache.specs.declared.reports.Review.TheVariants as review
use Rattle.mmu.specs.declared.message.Took.TheVariants as took
use Rattle.slot_lock.proofs.Facts.{two}
use Rattle.slot_lock.specs.declared.plan.Goal.TheVariants as To
use Rattle.slot_lock.specs.declared.plan.Target.TheVariants.{Run}
use Rattle.slot_lock.specs.declared.slot_map.Fit.{Fit}
use Rattle.slot_lock.specs.declared.slot_map.Fit.TheVariants as fit
use Rattle.slot_lock.specs.declared.slot_map.Got.{Got}
use Rattle.slot_lock.specs.declared.slot_map.Got.TheVariants.{Split}
use Rattle.slot_lock.specs.Slots.{Cuts, CutSteps, DividesAs, Splits, Steps, crossed_edge}
use Rattle.machine_model.specs.declared.event.Blocker.TheVariants as WaitsFor
use Rattle.machine_model.specs.declared.event.Event.TheVariants as EventOf
use Rattle.machine_model.specs.declared.phase.Phase.TheVariants.{Back as Leaving}
use Rattle.machine_model.specs.Accesses.{IsLeastFree, TakesFrame}
use Rattle.machine_model.specs.Changes.{CommitsNext, DecidesNext, after_decision}
use Rattle.machine_model.specs.Counting.{frame_lost}
use Rattle.machine_model.specs.Filling.{CopiesNext, CountsCopy, FillsOwn}
use Rattle.machine_model.specs.Locks.{FoldsAt, LocksTo}
use Rattle.machine_model.specs.Placing.{CutsTo, GuessesNext, FindsNext, after_finding_place, after_guess}
use Rattle.core_steps.specs.Dividing.{CutsExactly, DividesAsMap, GoesAsMap, LocksExactly}
use Rattle.core_steps.specs.Moving.{FoldsExactly, JoinsAsMap}
use Rattle.certifier.proofs.OneChoice.{one_decision, one_place, one_room, one_set}
use Rattle.certifier.proofs.OneCounts.{one_copied, one_down, one_flush, one_review, one_taken}
use Rattle.certifier.proofs.OneSlots.{crossed_not_cut, crossed_not_locked, one_division, one_lock, one_unlock}

-- ---- two steps

-- two steps came to the same
abbrev Same : Outcome → World → Outcome → World → Type 0
Same o v p u = (o ≡ p) × (v ≡ u)

-- both came to this outcome, and to states that are the same
alike : (o p q : Outcome) (v u x y : World) → (o ≡ q) × (v ≡ x) → (p ≡ q) × (u ≡ y) → x ≡ y → Same o v p u
alike o p q v u x y h k e = (h.0 ∙ sym k.0, h.1 ∙ e ∙ sym k.1)

-- by one test
tested : (b : Bool) (q r : Outcome) (x y : World) (o p : Outcome) (v u : World) → cond b ((o ≡ q) × (v ≡ x)) ((o ≡ r) × (v ≡ y))
    → cond b ((p ≡ q) × (u ≡ x)) ((p ≡ r) × (u ≡ y)) → Same o v p u
tested true q r x y o p v u h k = alike o p q v u x x h k refl
tested false q r x y o p v u h k = alike o p r v u y y h k refl

idle : (w : World) (o p : Outcome) (v u : World) → Idles w o v → Idles w p u → Same o v p u
idle w o p v u h k = alike o p Idle v u w w h k refl

stepped : (w : World) (o p : Outcome) (v u : World) → Becomes w o v → Becomes w p u → Same o v p u
stepped w o p v u h k = alike o p Stepped v u w w h k refl

owned : (o : Option ℕ) (b : ℕ) → o ≡ None → o ≡ Some b → ⊥
owned o b e f = cc

inside : (o : Option ℕ) (a b : ℕ) → o ≡ Some a → o ≡ Some b → a ≡ b
inside o a b e f = cc

-- only its slots are other ones, and they are the same
reslotted : (w v u : World) (s t : Slots) → v ≡ record w { slots = s } → u ≡ record w { slots = t } → v.slots ≡ u.slots → v ≡ u
reslotted w v u s t h k e =
    h ∙ ap (λ (x : Slots). record w { slots = x }) (sym (ap (λ (z : World). z.slots) h) ∙ e ∙ ap (λ (z : World). z.slots) k) ∙ sym k

-- ---- those who are awaited

one_awaited : (h : Hardware) (c a b : ℕ) → Awaits h c a → Awaits h c b → a ≡ b
one_awaited h c a b x y = one_set a b (λ d. ap (λ f. f d) (x.exact ∙ sym y.exact))

nobody : (h : Hardware) (c a : ℕ) → AwaitsNobody h c → Awaits h c a → ⊥
nobody h c a none some = two _ (none some.some.0) some.some.1

still : (w : World) (o p : Outcome) (v u : World) (c a b : ℕ) → Awaits w.hardware c a → Awaits w.hardware c b → (o ≡ Wait (WaitsFor.Acks a)) × (v ≡ w)
    → (p ≡ Wait (WaitsFor.Acks b)) × (u ≡ w) → Same o v p u
still w o p v u c a b x y h k = (h.0 ∙ ap (λ n. Wait (WaitsFor.Acks n)) (one_awaited w.hardware c a b x y) ∙ sym k.0, h.1 ∙ sym k.1)

-- ---- a call begins

begin_one : (w : World) (c : ℕ) (request : Request) (phase : Phase) (o p : Outcome) (v u : World) → Begins w c request phase o v → Begins w c request phase p u
    → Same o v p u
begin_one w c request Free o p v u h k =
    tested (nat_lt (length w.calls.requests) w.made.calls) Stepped Full (after_call c request w) w o p v u h k
begin_one w c request _ o p v u h k = idle w o p v u h k

-- ---- places and decisions

guess_one : (w : World) (c : ℕ) (place : Place) (o p : Outcome) (v u : World) → GuessesNext w c place o v → GuessesNext w c place p u → Same o v p u
guess_one w c place o p v u h k =
    let same = one_room (is_mapped (entries w.slots)) place.window place.count h.0 k.0 h.1 k.1 in
    alike o p Stepped v u _ _ h.2 k.2 (ap (λ f. after_guess c place (guess_of place f) w) same)

find_one : (w : World) (c : ℕ) (place : Place) (target : Target) (o p : Outcome) (v u : World) → FindsNext w c place target o v
    → FindsNext w c place target p u → Same o v p u
find_one w c place target o p v u h k =
    alike o p Stepped v u _ _ h.2 k.2 (ap (λ d. after_finding_place c place target d w) (one_place w.slots place target h.0 k.0 h.1 k.1))

decide_one : (w : World) (c : ℕ) (change : Change) (o p : Outcome) (v u : World) → DecidesNext w c change o v → DecidesNext w c change p u → Same o v p u
decide_one w c change o p v u h k =
    alike o p Stepped v u _ _ h.2 k.2 (ap (λ d. after_decision c change d w) (one_decision w.made.file w.slots change h.0 k.0 h.1 k.1))

-- ---- slots

unlock_one : (w : World) (c first end : ℕ) (after : ℕ → Slots → World) (b d : ℕ) (s t : Slots) (o p : Outcome) (v u : World) → Unlocks w.slots s c first end b
    → Unlocks w.slots t c first end d → Becomes (after b s) o v → Becomes (after d t) p u → Same o v p u
unlock_one w c first end after b d s t o p v u x y h k =
    let same = one_unlock w.slots s t c first end b d x y in
    alike o p Stepped v u (after b s) (after d t) h k (ap (λ n. after n s) same.0 ∙ ap (after d) same.1)

module _ (P : PageRange → ℕ → ℕ → Bool) where
  split_so : (s t x : Slots) (core cursor end : ℕ) → Splits s t cursor end → LocksExactly P s core cursor end x
      → DividesAs P s x (crossed_edge s (between cursor end))
  split_so s t x core cursor end h (inl d) = d.1
  split_so s t x core cursor end h (inr l) = absurd (crossed_not_locked s cursor end l.0 h.crosses l.1.slot l.1.by_end)

  lock_one : (w : World) (c : ℕ) (goal : Goal) (cursor : ℕ) (a b : Got) (s t : Slots) (o p : Outcome) (v u : World)
      → Steps w.slots s c cursor (goal_range goal).end a → Steps w.slots t c cursor (goal_range goal).end b
      → LocksTo w c goal s a o v → LocksTo w c goal t b p u
      → GoesAsMap P w.slots c (Lock goal cursor) o v.slots → GoesAsMap P w.slots c (Lock goal cursor) p u.slots → Same o v p u
  lock_one w c goal cursor Split Split s t o p v u x y h k i j = (
    h.0 ∙ sym k.0,
    reslotted w v u s t h.1 k.1 (one_division P w.slots v.slots u.slots _ (split_so w.slots s v.slots c cursor (goal_range goal).end x (i h.0))
        (split_so w.slots t u.slots c cursor (goal_range goal).end y (j k.0))),
  )
  lock_one w c goal cursor (Locked m) (Locked n) s t o p v u x y h k i j =
      let same = one_lock w.slots s t c cursor (goal_range goal).end m n x y in
      alike o p Stepped v u _ _ h k (ap (λ d. to c (locked_to goal d) (record w { slots = s })) same.0
      ∙ ap (λ (z : Slots). to c (locked_to goal n) (record w { slots = z })) same.1)
  lock_one w c goal cursor (Held m) (Held n) s t o p v u x y h k i j =
      (h.0 ∙ ap (λ d. Wait (WaitsFor.Slot d)) (inside (w.slots.owner cursor) m n x.1 y.1) ∙ sym k.0, h.1 ∙ sym k.1)
  lock_one w c goal cursor Split (Locked n) s t o p v u x y h k i j =
      absurd (crossed_not_locked w.slots cursor (goal_range goal).end n x.crosses y.slot y.by_end)
  lock_one w c goal cursor (Locked m) Split s t o p v u x y h k i j =
      absurd (crossed_not_locked w.slots cursor (goal_range goal).end m y.crosses x.slot x.by_end)
  lock_one w c goal cursor Split (Held n) s t o p v u x y h k i j = absurd (owned (w.slots.owner cursor) n x.was_free y.1)
  lock_one w c goal cursor (Held m) Split s t o p v u x y h k i j = absurd (owned (w.slots.owner cursor) m y.was_free x.1)
  lock_one w c goal cursor (Locked m) (Held n) s t o p v u x y h k i j =
      absurd (owned (w.slots.owner cursor) n (x.was_free cursor (omega arith) x.slot.ordered) y.1)
  lock_one w c goal cursor (Held m) (Locked n) s t o p v u x y h k i j =
      absurd (owned (w.slots.owner cursor) m (y.was_free cursor (omega arith) y.slot.ordered) x.1)

  cut_so : (s t x : Slots) (core : ℕ) (range : PageRange) → Cuts s t core range → CutsExactly P s range x → DividesAs P s x (crossed_edge s range)
  cut_so s t x core range h (inl d) = d.1
  cut_so s t x core range h (inr i) = absurd (crossed_not_cut s range h.crossed i.0)

  cut_one : (w : World) (c : ℕ) (place : Place) (target : Target) (range : PageRange) (a b : Fit) (s t : Slots) (o p : Outcome) (v u : World)
      → CutSteps w.slots s c range a → CutSteps w.slots t c range b → CutsTo w s a (after_cuts c place target range w) o v
      → CutsTo w t b (after_cuts c place target range w) p u → GoesAsMap P w.slots c (Cut place target range) o v.slots
      → GoesAsMap P w.slots c (Cut place target range) p u.slots → Same o v p u
  cut_one w c place target range fit.Cut fit.Cut s t o p v u x y h k i j = (
    h.0 ∙ sym k.0,
    reslotted w v u s t h.1 k.1 (one_division P w.slots v.slots u.slots _ (cut_so w.slots s v.slots c range x (i h.0))
        (cut_so w.slots t u.slots c range y (j k.0))),
  )
  cut_one w c place target range fit.Fits fit.Fits s t o p v u x y h k i j = stepped _ o p v u h k
  cut_one w c place target range fit.Cut fit.Fits s t o p v u x y h k i j = absurd (crossed_not_cut w.slots range x.crossed y.0)
  cut_one w c place target range fit.Fits fit.Cut s t o p v u x y h k i j = absurd (crossed_not_cut w.slots range y.crossed x.0)

-- ---- changes

acks_one : (w : World) (c : ℕ) (change : Change) (held : PageRange) (o p : Outcome) (v u : World) → AreReached w.memory.counts
    → CommitsNext w c change held o v → CommitsNext w c change held p u → Same o v p u
acks_one w c change held o p v u r (inl h) (inl k) =
    let same = one_down c (frame_lost change w.slots.info) (range_of change).first _ w.memory.counts h.1.0 k.1.0 r h.1.1 k.1.1 in
    alike o p Stepped v u _ _ h.1.2 k.1.2 (ap (λ n. after_commit c change held n w) same)
acks_one w c change held o p v u r (inl h) (inr k) = absurd (nobody w.hardware c k.0 h.0 k.1)
acks_one w c change held o p v u r (inr h) (inl k) = absurd (nobody w.hardware c h.0 k.0 h.1)
acks_one w c change held o p v u r (inr h) (inr k) = still w o p v u c h.0 k.0 h.1 k.1 (h.2, h.3) (k.2, k.3)

-- ---- frames

one_free : (is_free : ℕ → Bool) (f g : ℕ) → IsLeastFree is_free f → IsLeastFree is_free g → f ≡ g
one_free is_free f g h k =
    let not_below : ¬ f < g = λ l. two _ (k.least f l) h.free in
    let not_above : ¬ g < f = λ l. two _ (h.least g l) k.free in
    omega (arith, not_below, not_above)

want_one : (w : World) (c : ℕ) (touch : Touch) (old : Option ℕ) (o p : Outcome) (v u : World) → TakesFrame w c touch old o v → TakesFrame w c touch old p u
    → Same o v p u
want_one w c touch old o p v u (inl h) (inl k) = stepped _ o p v u h.1 k.1
want_one w c touch old o p v u (inl h) (inr k) = absurd (two _ (h.0 k.0) k.1.free)
want_one w c touch old o p v u (inr h) (inl k) = absurd (two _ (k.0 h.0) h.1.free)
want_one w c touch old o p v u (inr h) (inr k) =
    alike o p Stepped v u _ _ h.2 k.2 (ap (λ f. after_frame c touch old f w) (one_free w.memory.is_free h.0 k.0 h.1 k.1))

file_one : (w : World) (c : ℕ) (touch : Touch) (own shown : Option ℕ) (o p : Outcome) (v u : World) → AreReached w.memory.counts
    → FillsFromFile w c touch own shown o v → FillsFromFile w c touch own shown p u → Same o v p u
file_one w c touch own (Some g) o p v u r h k =
    alike o p Stepped v u _ _ h.2 k.2 (ap (λ n. after_sharing c touch own g n w) (one_taken w.memory.counts (Inc c g) h.0 k.0 r h.1 k.1))
file_one w c touch (Some f) None o p v u r h k =
    alike o p Stepped v u _ _ h.2 k.2 (ap (λ n. after_caching c touch f n w) (one_taken w.memory.counts (Begin f 2) h.0 k.0 r h.1 k.1))
file_one w c touch None None o p v u r h k = absurd h

own_one : (w : World) (after : ℕ → Counts → World) (own : Option ℕ) (o p : Outcome) (v u : World) → AreReached w.memory.counts → FillsOwn w after own o v
    → FillsOwn w after own p u → Same o v p u
own_one w after None o p v u r h k = absurd h
own_one w after (Some f) o p v u r h k =
    alike o p Stepped v u _ _ h.2 k.2 (ap (after f) (one_taken w.memory.counts (Begin f 1) h.0 k.0 r h.1 k.1))

fill_one : (w : World) (c : ℕ) (touch : Touch) (own : Option ℕ) (back : Back) (access : Access) (o p : Outcome) (v u : World) → AreReached w.memory.counts
    → FillsBacked w c touch own back access o v → FillsBacked w c touch own back access p u → Same o v p u
fill_one w c touch own Anon access o p v u r h k = own_one w (λ f n. after_zeros c touch f n w) own o p v u r h k
fill_one w c touch own (Shared n i) access o p v u r h k = file_one w c touch own (w.memory.cached n i) o p v u r h k
fill_one w c touch own (Private n i) Store o p v u r h k = own_one w (λ f m. after_first_copy c touch f m w) own o p v u r h k
fill_one w c touch own (Private n i) _ o p v u r h k = file_one w c touch own (w.memory.cached n i) o p v u r h k

copy_one : (w : World) (c : ℕ) (touch : Touch) (f : ℕ) (o p : Outcome) (v u : World) → AreReached w.memory.counts → CopiesNext w c touch f o v
    → CopiesNext w c touch f p u → Same o v p u
copy_one w c touch f o p v u r (inl h) (inl k) =
    let frame = inside (frame_of (w.slots.info touch.page)) h.1.0 k.1.0 h.1.2 k.1.2 in
    let same = one_copied c f h.1.0 w.memory.counts h.1.1 k.1.1 r h.1.3
    (subst (λ g. CountsCopy c f g w.memory.counts k.1.1) (sym frame) k.1.3) in
    alike o p Stepped v u _ _ h.1.4 k.1.4 (ap (λ g. after_copy c touch f g h.1.1 w) frame ∙ ap (λ n. after_copy c touch f k.1.0 n w) same)
copy_one w c touch f o p v u r (inl h) (inr k) = absurd (nobody w.hardware c k.0 h.0 k.1)
copy_one w c touch f o p v u r (inr h) (inl k) = absurd (nobody w.hardware c h.0 k.0 h.1)
copy_one w c touch f o p v u r (inr h) (inr k) = still w o p v u c h.0 k.0 h.1 k.1 (h.2, h.3) (k.2, k.3)

-- ---- a call goes on

module _ (P : PageRange → ℕ → ℕ → Bool) where
  go_one : (w : World) (c : ℕ) (phase : Phase) (o p : Outcome) (v u : World) → AreReached w.memory.counts → Goes w c phase o v → Goes w c phase p u
      → GoesAsMap P w.slots c phase o v.slots → GoesAsMap P w.slots c phase p u.slots → Same o v p u
  go_one w c Free o p v u r h k i j = idle w o p v u h k
  go_one w c (Check request) o p v u r h k i j = stepped _ o p v u h k
  go_one w c (Lock goal cursor) o p v u r h k i j = lock_one P w c goal cursor h.0 k.0 h.1.0 k.1.0 o p v u h.1.1 k.1.1 h.1.2 k.1.2 i j
  go_one w c (Guess place) o p v u r h k i j = guess_one w c place o p v u h k
  go_one w c (Find place target) o p v u r h k i j = find_one w c place target o p v u h k
  go_one w c (Leaving place target held) o p v u r h k i j =
      unlock_one w c held.first held.end (λ b t. to c (back_to place target (held_after held b)) (record w { slots = t })) h.0 k.0 h.1.0 k.1.0 o p v u
      h.1.1 k.1.1
      h.1.2 k.1.2
  go_one w c (Cut place target range) o p v u r h k i j = cut_one P w c place target range h.0 k.0 h.1.0 k.1.0 o p v u h.1.1 k.1.1 h.1.2 k.1.2 i j
  go_one w c (Decide change) o p v u r h k i j = decide_one w c change o p v u h k
  go_one w c (Post change shoot) o p v u r h k i j = stepped _ o p v u h k
  go_one w c (Acks goal change) o p v u r h k i j = acks_one w c change (goal_range goal) o p v u r h k
  go_one w c (Unlock held reply) o p v u r h k i j =
      unlock_one w c held.first held.end (λ b t. to c (let_go (held_after held b) reply) (record w { slots = t })) h.0 k.0 h.1.0 k.1.0 o p v u
      h.1.1 k.1.1 h.1.2 k.1.2
  go_one w c (Answer reply) o p v u r h k i j = alike o p (Answered reply) v u (to c Free w) (to c Free w) h k refl
  go_one w c (Try touch) o p v u r h k i j = stepped _ o p v u h k
  go_one w c (Settle touch) o p v u r h k i j = stepped _ o p v u h k
  go_one w c (Want touch old) o p v u r h k i j = want_one w c touch old o p v u h k
  go_one w c (Fill touch own) o p v u r h k i j = fill_one w c touch own _ touch.access o p v u r h k
  go_one w c (CopyPost touch f) o p v u r h k i j = stepped _ o p v u h k
  go_one w c (CopyAcks touch f) o p v u r h k i j = copy_one w c touch f o p v u r h k
  go_one w c (Install touch) o p v u r h k i j = stepped _ o p v u h k
  go_one w c (Release touch) o p v u r h k i j =
      unlock_one w c touch.page (touch.page + 1) (λ b t. to c (Try touch) (record w { slots = t })) h.0 k.0 h.1.0 k.1.0 o p v u
      h.1.1 k.1.1 h.1.2 k.1.2

-- ---- the other events

frame_one : (w : World) (c f : ℕ) (phase : Phase) (o p : Outcome) (v u : World) → TakesThisFrame w c phase f o v → TakesThisFrame w c phase f p u → Same o v p u
frame_one w c f (Want touch old) o p v u h k = tested (w.memory.is_free f) Stepped Idle (after_frame c touch old f w) w o p v u h k
frame_one w c f _ o p v u h k = idle w o p v u h k

run_one : (w : World) (c first : ℕ) (phase : Phase) (o p : Outcome) (v u : World) → GuessesThisRun w c phase first o v → GuessesThisRun w c phase first p u
    → Same o v p u
run_one w c first (Guess place) o p v u h k =
    tested (lies_in place.window place.count first) Stepped Idle (after_guess c place (Run (pages_from first place.count)) w) w o p v u h k
run_one w c first _ o p v u h k = idle w o p v u h k

window_one : (w : World) (c : ℕ) (phase : Phase) (o p : Outcome) (v u : World) → TakesWindow w c phase o v → TakesWindow w c phase p u → Same o v p u
window_one w c (Guess place) o p v u h k = stepped _ o p v u h k
window_one w c _ o p v u h k = idle w o p v u h k

take_one : (w : World) (c : ℕ) (t : Took) (o p : Outcome) (v u : World) → TakesMessage w c t o v → TakesMessage w c t p u → Same o v p u
take_one w c (took.Clear range) o p v u h k = stepped _ o p v u h k
take_one w c (took.Invalidate range) o p v u h k = stepped _ o p v u h k
take_one w c took.Idle o p v u h k = idle w o p v u h k

flushed_one : (w : World) (report : Flush) (counts : Counts) (o p : Outcome) (v u : World) → ReportsFlush w report counts o v
    → ReportsFlush w report counts p u → Same o v p u
flushed_one w flush.Idle counts o p v u h k = idle w o p v u h k
flushed_one w _ counts o p v u h k = stepped _ o p v u h k

flush_one : (w : World) (c : ℕ) (a b : Flush) (m n : Counts) (o p : Outcome) (v u : World) → AreReached w.memory.counts → Takes w.memory.counts (Flushing c a) m
    → Takes w.memory.counts (Flushing c b) n → ReportsFlush w a m o v → ReportsFlush w b n p u → Same o v p u
flush_one w c a b m n o p v u r x y h k =
    let report = one_flush w.memory.counts c a b m n x y in
    let counts = one_taken w.memory.counts (Flushing c a) m n r x (subst (λ q. Takes w.memory.counts (Flushing c q) n) (sym report) y) in
    flushed_one w a m o p v u h (subst (λ q. ReportsFlush w a q p u) (sym counts) (subst (λ q. ReportsFlush w q n p u) (sym report) k))

reviewed_one : (w : World) (report : Review) (counts : Counts) (o p : Outcome) (v u : World) → ReportsReview w report counts o v
    → ReportsReview w report counts p u → Same o v p u
reviewed_one w review.Idle counts o p v u h k = idle w o p v u h k
reviewed_one w (review.Freed f) counts o p v u h k = stepped _ o p v u h k
reviewed_one w _ counts o p v u h k = stepped _ o p v u h k

review_one : (w : World) (c : ℕ) (a b : Review) (m n : Counts) (o p : Outcome) (v u : World) → AreReached w.memory.counts
    → Takes w.memory.counts (Reviewing c a) m → Takes w.memory.counts (Reviewing c b) n → ReportsReview w a m o v → ReportsReview w b n p u → Same o v p u
review_one w c a b m n o p v u r x y h k =
    let report = one_review w.memory.counts c a b m n x y in
    let counts = one_taken w.memory.counts (Reviewing c a) m n r x (subst (λ q. Takes w.memory.counts (Reviewing c q) n) (sym report) y) in
    reviewed_one w a m o p v u h (subst (λ q. ReportsReview w a q p u) (sym counts) (subst (λ q. ReportsReview w q n p u) (sym report) k))

given_up_one : (w : World) (c : ℕ) (phase : Phase) (o p : Outcome) (v u : World) → GivesUp w c phase o v → GivesUp w c phase p u → Same o v p u
given_up_one w c (CopyAcks touch f) o p v u (inl h) (inl k) = stepped _ o p v u h.1 k.1
given_up_one w c (CopyAcks touch f) o p v u (inl h) (inr k) = absurd (nobody w.hardware c k.0.0 h.0 k.0.1)
given_up_one w c (CopyAcks touch f) o p v u (inr h) (inl k) = absurd (nobody w.hardware c h.0.0 k.0 h.0.1)
given_up_one w c (CopyAcks touch f) o p v u (inr h) (inr k) = idle w o p v u h.1 k.1
given_up_one w c phase o p v u h k = tested (can_give_up phase) Stepped Idle (after_give_up c phase w) w o p v u h k

-- ---- slots are joined

module _ (C : Slots → ℕ → Type 0) (F : Slots → Slots → ℕ → Type 0) (one : (s t u : Slots) (page : ℕ) → F s t page → F s u page → t ≡ u) where
  -- slots were joined as the map joins them, or couldn't be
  data Folded (w : World) (page : ℕ) (o : Outcome) (v : World) : Type 0 where
    joins : o ≡ Stepped → IsPage page × C w.slots page → F w.slots v.slots page → (t : Slots) → v ≡ record w { slots = t } → Folded w page o v
    stays : o ≡ Idle → (IsPage page × C w.slots page → ⊥) → v ≡ w → Folded w page o v

  folded : (w : World) (page : ℕ) (o : Outcome) (v : World) → FoldsAt w page o v → (o ≡ Full) ⊎ FoldsExactly C F w.slots page o v.slots → Folded w page o v
  folded w page o v (inl h) (inl i) = let e = sym h.0 ∙ i in absurd (cc)
  folded w page o v (inl h) (inr (inl i)) = let e = sym h.0 ∙ i.0 in absurd (cc)
  folded w page o v (inl h) (inr (inr i)) = stays h.0 i.1 h.1
  folded w page o v (inr h) (inl i) = let e = sym h.1.3.0 ∙ i in absurd (cc)
  folded w page o v (inr h) (inr (inl i)) = joins i.0 (i.1, i.2) i.3 h.1.0 h.1.3.1
  folded w page o v (inr h) (inr (inr i)) = let e = sym h.1.3.0 ∙ i.0 in absurd (cc)

  fold_one : (w : World) (page : ℕ) (o p : Outcome) (v u : World) → Folded w page o v → Folded w page p u → Same o v p u
  fold_one w page o p v u (joins e can f t h) (joins g also k s i) = (e ∙ sym g, reslotted w v u t s h i (one w.slots v.slots u.slots page f k))
  fold_one w page o p v u (joins e can f t h) (stays g not i) = absurd (not can)
  fold_one w page o p v u (stays e not h) (joins g also k s i) = absurd (not also)
  fold_one w page o p v u (stays e not h) (stays g never i) = (e ∙ sym g, h ∙ sym i)

  -- ---- every event

  module _ (P : PageRange → ℕ → ℕ → Bool) where
    act_one : (w : World) (e : Event) (o p : Outcome) (v u : World) → AreReached w.memory.counts → Acts (with_event w) e o v → Acts (with_event w) e p u
        → JoinsAsMap C F w e o v → JoinsAsMap C F w e p u → DividesAsMap P w e o v → DividesAsMap P w e p u → Same o v p u
    act_one w (Call c request) o p v u r h k a b i j = begin_one (with_event w) c request (w.calls.phase c) o p v u h k
    act_one w (Go c) o p v u r h k a b i j = go_one P (with_event w) c (w.calls.phase c) o p v u r h k i j
    act_one w (EventOf.Frame c f) o p v u r h k a b i j = frame_one (with_event w) c f (w.calls.phase c) o p v u h k
    act_one w (EventOf.Guess c q) o p v u r h k a b i j = run_one (with_event w) c q (w.calls.phase c) o p v u h k
    act_one w (EventOf.Whole c) o p v u r h k a b i j = window_one (with_event w) c (w.calls.phase c) o p v u h k
    act_one w (EventOf.Take c) o p v u r h k a b i j = take_one (with_event w) c (asked (w.hardware.inbox c)) o p v u h k
    act_one w (EventOf.Walk c q) o p v u r h k a b i j =
        tested (can_walk w.hardware c q) Stepped Idle (with_hardware (after_walk w.hardware c q) (with_event w)) (with_event w) o p v u h k
    act_one w (EventOf.Evict c q) o p v u r h k a b i j =
        tested (is_some (tlb_at (w.hardware.tlb c) q)) Stepped Idle (with_hardware (after_eviction w.hardware c q) (with_event w)) (with_event w) o p v u h k
    act_one w (EventOf.Flush c) o p v u r h k a b i j = flush_one (with_event w) c h.0 k.0 h.1.0 k.1.0 o p v u r h.1.1 k.1.1 h.1.2 k.1.2
    act_one w (EventOf.Review c) o p v u r h k a b i j = review_one (with_event w) c h.0 k.0 h.1.0 k.1.0 o p v u r h.1.1 k.1.1 h.1.2 k.1.2
    act_one w (EventOf.Fold q) o p v u r h k a b i j =
        fold_one (with_event w) q o p v u (folded (with_event w) q o v h a) (folded (with_event w) q p u k b)
    act_one w (EventOf.GiveUp c) o p v u r h k a b i j = given_up_one (with_event w) c (w.calls.phase c) o p v u h k

    here_one : (w : World) (e : Event) (o p : Outcome) (v u : World) (b : Bool) → AreReached w.memory.counts
        → cond b (Acts (with_event w) e o v) (Idles (with_event w) o v) → cond b (Acts (with_event w) e p u) (Idles (with_event w) p u)
        → JoinsAsMap C F w e o v → JoinsAsMap C F w e p u → DividesAsMap P w e o v → DividesAsMap P w e p u → Same o v p u
    here_one w e o p v u true r h k a b i j = act_one w e o p v u r h k a b i j
    here_one w e o p v u false r h k a b i j = idle (with_event w) o p v u h k

    -- the event comes to one outcome, and leads to one state
    pub one_step : (w : World) (e : Event) (o p : Outcome) (v u : World) → AreReached w.memory.counts → Step w e o v → Step w e p u → JoinsAsMap C F w e o v
        → JoinsAsMap C F w e p u → DividesAsMap P w e o v → DividesAsMap P w e p u → Same o v p u
    one_step w e o p v u r h k a b i j = go (nat_lt w.calls.events event_limit) h k
      where
        go : (b : Bool) → cond b (cond (is_here w.made (core_of e)) (Acts (with_event w) e o v) (Idles (with_event w) o v)) ((o ≡ Full) × (v ≡ w))
            → cond b (cond (is_here w.made (core_of e)) (Acts (with_event w) e p u) (Idles (with_event w) p u)) ((p ≡ Full) × (u ≡ w)) → Same o v p u
        go true x y = here_one w e o p v u (is_here w.made (core_of e)) r x y a b i j
        go false x y = alike o p Full v u w w x y refl
