-- Steps of a call one after another, between which its core's phase isn't written: in general, those that lock or let go slots one after
-- another, and those at pages that are one slot
use Rattle.machine_model.proofs.Words.{◌≡◌, ℕ, zero, suc, ◌+◌, ◌<◌, ◌≤◌, ◌==◌, Bool, true, false, cond, Option, Some, None, [], ◌∷◌, ◌++◌, refl, sym, subst}
use Rattle.machine_model.proofs.Words.{ap, ◌∙◌, arith, if◌then◌else◌, nat_tests, Request, put_same, has_in, in_has, core_of}
use Rattle.machine_model.proofs.Words.{to, after_reply, let_go, World, Memory, Acts, Goes, Step, event_limit, is_here, with_event, StepsTo, fun_ext}
use Rattle.machine_model.proofs.Words.{PageInfo, PageRange, Reply, has, Goal, Touch, Locked, goal_range, IsSlot, Slots, Unlocks, between, with_owner, Locks}
use Rattle.machine_model.proofs.Words.{page_of_touch, all_locked, locking, held_after, locked_to}
use Rattle.machine_model.specs.declared.event.Event.{Event}
use Rattle.machine_model.specs.declared.event.Event.TheVariants.{Call, Go}
use Rattle.machine_model.specs.declared.event.Outcome.{Outcome}
use Rattle.machine_model.specs.declared.event.Outcome.TheVariants.{Stepped}
use Rattle.machine_model.specs.declared.phase.Phase.{Phase}
use Rattle.machine_model.specs.declared.phase.Phase.TheVariants.{Answer, Lock, Release, Try, Unlock}
use Rattle.std.proofs.Common.{nat_le, nat_lt}
use Rattle.std.proofs.Common.{add-one}
use Rattle.std.specs.Prelude.{◌≢◌}
use Rattle.machine_model.specs.Sound.{IsReached}
use Rattle.core_steps.specs.declared.machine.Finished.TheVariants.{Last}
use Rattle.core_steps.specs.Finishing.{Calls}
use Rattle.core_steps.specs.Moving.{IsAt}
use Rattle.core_steps.specs.OnePage.{Passes, later, logged_later}
use Rattle.core_steps.proofs.engine.Each.{put_id, put_twice}
use Rattle.core_steps.proofs.Reached.{steps_join, steps_reached, well}
use Rattle.core_steps.proofs.rows.Known.{is_at, is_left}
use Rattle.core_steps.proofs.rows.Rows.{if_true}
use Rattle.vm_base.specs.declared.log.Entry.TheVariants as EntryOf
use Rattle.vm_base.specs.Runs.{NoneIn}
use Rattle.slot_lock.specs.Slots.{IsFreeSlot}
use Rattle.slot_lock.specs.SlotRuns.{OneByOne}
use Rattle.core_steps.proofs.rows.Changing.{unlock_range}

pub less : (n m : ℕ) → n < m → nat_lt n m ≡ true
less n m h = grind (arith, nat_tests)

-- an event that can be counted, of a core of the machine's
pub counted_step : (w v : World) (c : ℕ) (e : Event) (o : Outcome) → w.calls.events < event_limit → core_of e ≡ Some c → c < w.made.cores
    → Acts (with_event w) e o v → Step w e o v
counted_step w v c e o below k here a =
    if_true (nat_lt w.calls.events event_limit) _ _ (less w.calls.events event_limit below)
    (if_true (is_here w.made (core_of e)) _ _ (subst (λ d. is_here w.made d ≡ true) (sym k) (less c w.made.cores here)) a)

-- ---- where a core's call stands

-- of two phases the later stays
pub to_twice : (w : World) (c : ℕ) (a b : Phase) → to c b (to c a w) ≡ to c b w
to_twice w c a b = ap (λ f. record w { calls = record w.calls { phase = f } }) (sym (put_twice w.calls.phase c a b))

-- what is there already
pub to_same : (w : World) (c : ℕ) (a : Phase) → w.calls.phase c ≡ a → to c a w ≡ w
to_same w c a e = ap (λ f. record w { calls = record w.calls { phase = f } }) (put_id w.calls.phase c a (sym e))

-- what is known of it there
pub stands : (w : World) (c : ℕ) (a : Phase) → c < w.made.cores → ∥ IsReached (to c a w) ∥₁ → IsAt (to c a w) c a
stands w c a here reached = is_at (to c a w) c here (well _ reached) a (put_same w.calls.phase c a)

-- ---- its steps

-- before the first
pub none_yet : (w : World) (c : ℕ) (a : Phase) → to c a (later 0 w) ≡ to c a w
none_yet w c a =
    let sum : w.calls.events + 0 ≡ w.calls.events = omega arith in
    ap (λ n. to c a (record w { calls = record w.calls { events = n } })) sum

pub one_later : (w : World) → later 1 w ≡ with_event w
one_later w = ap (λ n. record w { calls = record w.calls { events = n } }) (add-one w.calls.events)

-- a step from a phase
pub step_from : (m v : World) (c : ℕ) (o : Outcome) (a : Phase) → m.calls.events < event_limit → c < m.made.cores → Goes (to c a (with_event m)) c a o v
    → Step (to c a m) (Go c) o v
step_from m v c o a room here h =
    counted_step (to c a m) v c (Go c) o room refl here
    (subst (λ p. Goes (to c a (with_event m)) c p o v) (sym (put_same m.calls.phase c a)) h)

-- The step after n of them leads from one phase to the next. But for the phase and the number of events, it leads from x to y.
pub goes : (x y : World) (c n : ℕ) (a b : Phase) → x.calls.events + n < event_limit → c < x.made.cores
    → Goes (to c a (with_event (later n x))) c a Stepped (to c b (to c a (with_event (later n y))))
    → Step (to c a (later n x)) (Go c) Stepped (to c b (later (n + 1) y))
goes x y c n a b room here h =
    let one : suc (y.calls.events + n) ≡ y.calls.events + (n + 1) = omega arith in
    step_from (later n x) _ c Stepped a room here (subst (Goes (to c a (with_event (later n x))) c a Stepped)
    (to_twice (with_event (later n y)) c a b ∙ ap (λ k. to c b (record y { calls = record y.calls { events = k } })) one) h)

pub passes_join : (w m v : World) (c : ℕ) (a b d : Phase) (n k : ℕ) → Passes w c a n b m → Passes m c b k d v → Passes w c a (n + k) d v
passes_join w m v c a b d n k p q = record {
  steps = steps_join (to c a w) (to c b m) (to c d v) c n k p.steps q.steps;
  cores = q.cores ∙ p.cores;
  phases = q.phases ∙ p.phases;
  events = let first = p.events in let more = q.events in omega (arith, first, more);
  edges = q.edges ∙ p.edges;
}

pub passes_reached : {w v : World} {c n : ℕ} {a b : Phase} → Passes w c a n b v → ∥ IsReached (to c a w) ∥₁ → ∥ IsReached (to c b v) ∥₁
passes_reached {w} {v} {c} {n} {a} {b} p t = steps_reached (to c a w) (to c b v) c n p.steps t

-- ---- a call that doesn't begin

pub not_begun : (o : Outcome) (w m : World) (c : ℕ) (request : Request) → o ≢ Stepped → Step w (Call c request) o m → Calls w c request (Last o) m
not_begun Stepped w m c request n s = absurd (n refl)
not_begun o w m c request n s = (o, m, s, (refl, refl))

-- ---- slots one after another

-- n events later, with these slots
abbrev pub passed : Slots → ℕ → World → World
passed t n w = later n (record w { slots = t })

-- slots up to an end are changed one after another: at each page before it the call is in a phase in which such a change is a plain step
module _ (w : World) (c end : ℕ) (at before : ℕ → Phase) (on : (a : ℕ) → a < end → at a ≡ before a) (changes : Slots → Slots → ℕ → ℕ → Type 0)
    (each : (s t : Slots) (a b : ℕ) → changes s t a b → (a < b) × (b ≤ end) × (t.edge ≡ s.edge))
    (one : (v : World) (t : Slots) (a b : ℕ) → changes v.slots t a b → Goes v c (before a) Stepped (to c (at b) (record v { slots = t })))
    (here : c < w.made.cores) (first : ℕ) where
  pub steps : (n : ℕ) (t : Slots) (upto : ℕ) → w.calls.events + n ≤ event_limit → OneByOne changes w.slots t first n upto
      → StepsTo (to c (at first) w) c n (to c (at upto) (passed t n w))
  steps zero t upto room (same, start) =
      ap (λ x. to c (at x) (passed t 0 w)) start ∙ (ap (λ s. to c (at first) (passed s 0 w)) same ∙ none_yet w c (at first))
  steps (suc n) t upto room (m, (b, done, change)) =
      let x = to c (at b) (with_event (passed m n w)) in
      let some = (each m t b upto change).0 in
      let by = (each m t b upto change).1 in (
        to c (at b) (passed m n w),
        steps n m b (omega (arith, room)) done,
        subst (λ k. Step (to c (at b) (passed m n w)) (Go c) Stepped (to c (at upto) (passed t k w))) (add-one n)
            (goes (record w { slots = m }) (record w { slots = t }) c n (at b) (at upto) (omega (arith, room)) here
            (subst (λ a. Goes x c a Stepped (to c (at upto) (record x { slots = t }))) (sym (on b (omega (arith, some, by)))) (one x t b upto change))),
      )

  -- none is divided
  edges : (n : ℕ) (t : Slots) (upto : ℕ) → OneByOne changes w.slots t first n upto → t.edge ≡ w.slots.edge
  edges zero t upto (same, start) = ap (λ (s : Slots). s.edge) same
  edges (suc n) t upto (m, (b, done, change)) = (each m t b upto change).2 ∙ edges n m b done

  -- and so the state that the code leaves
  steps_left : (v : World) (n : ℕ) (t : Slots) (upto most : ℕ) (phase : Phase) → w.calls.phase c ≡ before first → first < end → n ≤ most
      → w.calls.events + most ≤ event_limit → OneByOne changes w.slots t first n upto → phase ≡ at upto → v ≡ to c phase (passed t n w)
      → StepsTo w c n v × (v.slots.edge ≡ w.slots.edge)
  steps_left v n t upto most phase e left few room run k now = (
    subst (λ x. StepsTo x c n v) (to_same w c (at first) (e ∙ sym (on first left)))
        (subst (StepsTo (to c (at first) w) c n) (sym (now ∙ ap (λ x. to c x (passed t n w)) k)) (steps n t upto (omega (arith, few, room)) run)),
    ap (λ (x : World). x.slots.edge) now ∙ edges n t upto run,
  )

-- before the goal's end the call locks on
locks_on : (goal : Goal) (a : ℕ) → a < (goal_range goal).end → locked_to goal a ≡ Lock goal a
locks_on goal a h =
    let more : nat_le (goal_range goal).end a ≡ false = grind (arith, nat_tests, h) in ap (λ b. if b then all_locked goal else Lock goal a) more

pub locks : (w v : World) (c : ℕ) (goal : Goal) (cursor n : ℕ) (t : Slots) (upto most : ℕ) (phase : Phase) → IsAt w c (Lock goal cursor)
    → n ≤ most → w.calls.events + most ≤ event_limit → OneByOne (λ s t a b. Locks s t c a (goal_range goal).end b) w.slots t cursor n upto
    → phase ≡ locked_to goal upto → v ≡ to c phase (passed t n w) → StepsTo w c n v × (v.slots.edge ≡ w.slots.edge)
locks w v c goal cursor n t upto most phase i =
    steps_left w c (goal_range goal).end (locked_to goal) (Lock goal) (locks_on goal) (λ s t a b. Locks s t c a (goal_range goal).end b)
    (λ s t a b l. (l.slot.ordered, l.by_end, ap (λ (s : Slots). s.edge) l.now)) (λ v t a b l. (Locked b, (t, l, (refl, refl)))) i.here
    cursor v n t upto most phase i.phase (is_left w c goal cursor i)

-- before the end of what is held the call unlocks on
pub unlocks_on : (held : PageRange) (reply : Reply) (a : ℕ) → a < held.end → let_go (held_after held a) reply ≡ Unlock (between a held.end) reply
unlocks_on held reply a h =
    let more : (a == held.end) ≡ false = grind (arith, nat_tests, h) in ap (λ b. let_go (if b then None else Some (between a held.end)) reply) more

pub unlocks : (w v : World) (c : ℕ) (held : PageRange) (reply : Reply) (n : ℕ) (t : Slots) (upto most : ℕ) (phase : Phase) → IsAt w c (Unlock held reply)
    → n ≤ most → w.calls.events + most ≤ event_limit → OneByOne (λ s t a b. Unlocks s t c a held.end b) w.slots t held.first n upto
    → phase ≡ let_go (held_after held upto) reply → v ≡ to c phase (passed t n w) → StepsTo w c n v × (v.slots.edge ≡ w.slots.edge)
unlocks w v c held reply n t upto most phase i =
    steps_left w c held.end (λ a. let_go (held_after held a) reply) (λ a. Unlock (between a held.end) reply) (unlocks_on held reply)
    (λ s t a b. Unlocks s t c a held.end b) (λ s t a b l. (l.slot.ordered, l.by_end, ap (λ (s : Slots). s.edge) l.now))
    (λ v t a b l. (b, (t, l, (refl, refl)))) i.here held.first v n t upto most phase i.phase (unlock_range w c held reply i).some

-- ---- a page that is a slot of its own and that nobody holds

-- A call that locks it, does its steps there and lets it go leaves the owners as they were. So the states that it passes are told by the
-- state that is left, with the page held. The page is given as a range, which the call's phases have.
abbrev pub held : Slots → ℕ → PageRange → Slots
held s c r = with_owner s r.first r.end (Some c)

abbrev pub holding : ℕ → PageRange → World → World
holding c r w = record w { slots = held w.slots c r }

-- what pages have may have changed since
abbrev pub having : Slots → (ℕ → Option PageInfo) → World → World
having s info x = record x { slots = record s { info = info } }

module _ (s : Slots) (r : PageRange) (one : r.end ≡ r.first + 1) (alone : IsFreeSlot s r.first) where
  is_slot : IsSlot s r.first r.end
  is_slot = subst (IsSlot s r.first) (sym one) alone.slot

  is_free : NoneIn s.owner r.first r.end
  is_free p low high = ap s.owner (omega (arith, low, high, one)) ∙ alone.free

  -- it is nobody's again
  free_again : (c : ℕ) (info : ℕ → Option PageInfo) → record s { info = info } ≡ with_owner (held (record s { info = info }) c r) r.first r.end None
  free_again c info = ap (λ o. record s { info = info; owner = o }) (fun_ext (λ p. go p (has r p) refl))
    where
      go : (p : ℕ) (b : Bool) → has r p ≡ b → s.owner p ≡ cond b None (cond b (Some c) (s.owner p))
      go p true e = let ends = has_in r p e in is_free p ends.0 ends.1
      go p false e = refl

  lets_go : (c : ℕ) (info : ℕ → Option PageInfo) → Unlocks (held (record s { info = info }) c r) (record s { info = info }) c r.first r.end r.end
  lets_go c info = record {
    slot = record { ordered = is_slot.ordered; begins = is_slot.begins; ends = is_slot.ends; inside = is_slot.inside };
    by_end = omega arith;
    was_held = λ p low high. rw (in_has r p low high) refl;
    now = free_again c info;
  }

-- the first step locks it for the goal
pub locked : (w : World) (c : ℕ) (goal : Goal) → w.calls.events < event_limit → c < w.made.cores → (goal_range goal).end ≡ (goal_range goal).first + 1
    → IsFreeSlot w.slots (goal_range goal).first
    → StepsTo (to c (locking goal) w) c 1 (to c (all_locked goal) (later 1 (holding c (goal_range goal) w)))
locked w c goal room here one alone =
    let r = goal_range goal in
    let past : nat_le r.end r.end ≡ true = grind (arith, nat_tests) in
    let m = to c (locking goal) (with_event (later 0 (holding c r w))) in (
      to c (locking goal) (later 0 w),
      none_yet w c (locking goal),
      goes w (holding c r w) c 0 (locking goal) (all_locked goal) (omega (arith, room)) here (
        Locked r.end,
        (
          held w.slots c r,
          record { slot = is_slot w.slots r one alone; by_end = omega arith; was_free = is_free w.slots r one alone; now = refl },
          (refl, ap (λ b. to c (if b then all_locked goal else Lock goal r.end) m) (sym past)),
        ),
      ),
    )

-- it is let go, and the reply handed out next,
unlocked : (x : World) (s : Slots) (info : ℕ → Option PageInfo) (c n : ℕ) (r : PageRange) (reply : Reply) → x.calls.events + n < event_limit
    → c < x.made.cores → r.end ≡ r.first + 1 → IsFreeSlot s r.first
    → Step (to c (Unlock r reply) (later n (holding c r (having s info x)))) (Go c) Stepped (to c (Answer reply) (later (n + 1) (having s info x)))
unlocked x s info c n r reply room here one alone =
    let y = having s info x in
    let whole : (r.end == r.end) ≡ true = grind (arith, nat_tests) in
    let m = to c (Unlock r reply) (with_event (later n y)) in
    goes (holding c r y) y c n (Unlock r reply) (Answer reply) room here (
      r.end,
      (y.slots, lets_go s r one alone c info, (refl, ap (λ b. to c (let_go (if b then None else Some (between r.end r.end)) reply) m) (sym whole))),
    )

-- or the access tried
pub released : (x : World) (s : Slots) (info : ℕ → Option PageInfo) (c n : ℕ) (touch : Touch) → x.calls.events + n < event_limit
    → c < x.made.cores → IsFreeSlot s touch.page
    → Step (to c (Release touch) (later n (holding c (page_of_touch touch) (having s info x)))) (Go c) Stepped
    (to c (Try touch) (later (n + 1) (having s info x)))
released x s info c n touch room here alone =
    let y = having s info x in
    goes (holding c (page_of_touch touch) y) y c n (Release touch) (Try touch) room here
    (touch.page + 1, (y.slots, lets_go s (page_of_touch touch) refl alone c info, (refl, refl)))

-- The call's reply is logged by the next step, after which the pages have this, and its page is let go by the one after it.
pub answered : (from x : World) (info : ℕ → Option PageInfo) (memory : Memory) (c n : ℕ) (r : PageRange) (a : Phase) (reply : Reply)
    → StepsTo from c n (to c a (later n (holding c r x))) → x.calls.events + (n + 1) < event_limit → c < x.made.cores
    → r.end ≡ r.first + 1 → IsFreeSlot x.slots r.first → Goes (to c a (with_event (later n (holding c r x)))) c a Stepped
    (after_reply c (Some r) reply (to c a (with_event (later n (holding c r (having x.slots info (record x { memory = memory })))))))
    → StepsTo from c (suc (suc n)) (to c (Answer reply) (logged_later c reply (n + 1) (having x.slots info (record x { memory = memory }))))
answered from x info memory c n r a reply before room here one alone logs =
    let y = logged (suc (x.calls.events + n)) in
    let same : suc (x.calls.events + n) ≡ x.calls.events + (n + 1) = omega arith in
    let more : x.calls.events + (n + 1 + 1) ≡ x.calls.events + (n + 1) + 1 = omega arith in
    subst (StepsTo from c (suc (suc n))) (ap (λ k. left k (x.calls.events + (n + 1 + 1))) same ∙ ap (left (x.calls.events + (n + 1))) more) (
      to c (Unlock r reply) (later (n + 1) (holding c r (having x.slots info y))),
      (
        to c a (later n (holding c r x)),
        before,
        goes (holding c r x) (holding c r (having x.slots info y)) c n a (Unlock r reply) (omega (arith, room)) here logs,
      ),
      unlocked y x.slots info c (n + 1) r reply room here one alone,
    )
  where
    -- with the number of this event
    logged : ℕ → World
    logged step = record x {
      memory = memory;
      calls = record x.calls { log = x.calls.log ++ EntryOf.Answer step (x.calls.number c) c reply ∷ [] };
    }

    left : ℕ → ℕ → World
    left step events = let v = having x.slots info (logged step) in to c (Answer reply) (record v { calls = record v.calls { events = events } })
