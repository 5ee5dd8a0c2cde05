-- The first events of a call, made at once: the states that it passes, and the one that is left
use Rattle.machine_model.proofs.Words.{◌≡◌, ℕ, suc, ◌+◌, ◌-◌, ◌<◌, ◌≤◌, Bool, not, length, Option, None, Result, Ok, Err, refl, sym, subst, ap, ◌∙◌, arith}
use Rattle.machine_model.proofs.Words.{∥∥₁_map, PageRange, Reply, Request, put_same, Plan, Touch}
use Rattle.machine_model.proofs.Words.{World, answer_entry, to, with_entry, after_check, after_plan, checked_by, locking, placing, Step, StepsTo, after_call}
use Rattle.machine_model.proofs.Words.{event_limit, with_event}
use Rattle.machine_model.specs.declared.event.Event.TheVariants.{Call, Go}
use Rattle.machine_model.specs.declared.event.Outcome.TheVariants.{Answered, Stepped}
use Rattle.machine_model.specs.declared.phase.Phase.{Phase}
use Rattle.machine_model.specs.declared.phase.Phase.TheVariants.{Answer, Check, Free, Try}
use Rattle.slot_lock.specs.declared.plan.Goal.TheVariants as To
use Rattle.slot_lock.specs.declared.plan.Plan.TheVariants as PlanOf
use Rattle.machine_model.specs.Orderly.{answer_count}
use Rattle.machine_model.specs.Sound.{IsReached}
use Rattle.machine_model.proofs.SoundKept.{reached_step}
use Rattle.core_steps.specs.declared.at_once.starting.Started.TheVariants as Started
use Rattle.core_steps.specs.AtOnce.{CanStart, IsAccess, Starts, StartsAsMap, with_call}
use Rattle.core_steps.specs.Dividing.{GoesAsMap}
use Rattle.core_steps.specs.Moving.{IsAt, tried_to}
use Rattle.core_steps.specs.OnePage.{Makes, Passes, later}
use Rattle.core_steps.proofs.at_once.AtOnce.{counted_step, less, one_later, passes_join, passes_reached, stands, step_from, to_same, to_twice}
use Rattle.core_steps.proofs.events.Calling.{begun as begins_so}
use Rattle.core_steps.proofs.Reached.{steps_join}

-- ---- it begins, and its arguments are checked

module _ (w : World) (c : ℕ) (request : Request) (i : CanStart w c) where
  abbrev begun : World
  begun = after_call c request (with_event w)

  abbrev checked : World
  checked = after_check c request (later 2 (with_call c request w))

  begins : Step w (Call c request) Stepped begun
  begins =
      counted_step w begun c (Call c request) Stepped (omega arith) refl i.here
      (begins_so (with_event w) begun c request (w.calls.phase c) i.begins.free
      (sym (ap not (less (length w.calls.requests) w.made.calls i.begins.room))) refl)

  begun_reached : ∥ IsReached begun ∥₁
  begun_reached = ∥∥₁_map i.reached (λ h. reached_step w begun (Call c request) Stepped h begins)

  pub reply_room : (a : World) → a ≡ with_call c request w → answer_count a.calls.log < a.made.calls
  reply_room a kept =
      subst (λ (x : World). answer_count x.calls.log < x.made.calls) (sym kept)
      ((stands (with_call c request (with_event w)) c (Check request) i.here begun_reached).room refl)

  -- that the call was at its check is forgotten
  planned : (r : Result Plan Reply) (x : World) → after_plan c r (to c (Check request) x) ≡ after_plan c r x
  planned (Err reply) x = to_twice (with_entry (answer_entry x c reply) x) c (Check request) (Answer reply)
  planned (Ok (PlanOf.Place place)) x = to_twice x c (Check request) (placing place place.hint)
  planned (Ok (PlanOf.Change change)) x = to_twice x c (Check request) (locking (To.Change change))
  planned (Ok (PlanOf.Touch touch)) x = to_twice x c (Check request) (Try touch)

  checks : Step begun (Go c) Stepped checked
  checks =
      let v = with_call c request w in
      let sum : w.calls.events + 2 ≡ suc (suc w.calls.events) = omega arith in
      step_from (with_event v) checked c Stepped (Check request) (omega arith) i.here (
        refl,
        ap (λ n. after_check c request (record v { calls = record v.calls { events = n } })) sum
            ∙ sym (planned (checked_by w.made c request) (with_event (with_event v))),
      )

  checked_reached : ∥ IsReached checked ∥₁
  checked_reached = ∥∥₁_map begun_reached (λ h. reached_step begun checked (Go c) Stepped h checks)

  -- and no more is made
  pub begins_plainly : (v : World) → v ≡ checked → (parts : PageRange → ℕ → ℕ → Bool)
      → Starts w c request (Started.Begun 1) v × StartsAsMap parts w c request (Started.Begun 1) v × ∥ IsReached v ∥₁
  begins_plainly v left parts =
      let exact = subst (λ a. GoesAsMap parts begun.slots c a Stepped checked.slots) (sym (put_same w.calls.phase c (Check request))) tt in
      subst (λ x. Starts w c request (Started.Begun 1) x × StartsAsMap parts w c request (Started.Begun 1) x × ∥ IsReached x ∥₁) (sym left)
      ((omega arith, (begun, begins, (begun, refl, checks))), (begun, begins, (begun, refl, checks, exact)), checked_reached)

-- ---- an access, which is to be tried two events after a

pub record IsCalled (w : World) (c : ℕ) (request : Request) (touch : Touch) (a : World) : Type 0 where
  pub begun : World
  pub begins : Step w (Call c request) Stepped begun
  pub steps : StepsTo begun c 1 (to c (Try touch) (later 2 a))
  pub reached : ∥ IsReached (to c (Try touch) (later 2 a)) ∥₁
  pub at : IsAt (to c (Try touch) (later 2 a)) c (Try touch)
  pub room : a.calls.events + 12 < event_limit
  pub free : a.calls.phase c ≡ Free

pub called : {w a : World} {c : ℕ} {request : Request} {touch : Touch} → IsAccess w c request touch → a ≡ with_call c request w
    → IsCalled w c request touch a
called {w} {a} {c} {request} {touch} i kept =
    let v = later 2 (with_call c request w) in
    let finds = ap (λ r. after_plan c r v) i.plan in
    let reached = subst (λ x. ∥ IsReached x ∥₁) finds (checked_reached w c request i.start) in
    subst (IsCalled w c request touch) (sym kept) (record {
      begun = begun w c request i.start;
      begins = begins w c request i.start;
      steps = (_, refl, subst (Step (begun w c request i.start) (Go c) Stepped) finds (checks w c request i.start));
      reached = reached;
      at = stands v c (Try touch) i.start.here reached;
      room = i.start.below;
      free = i.start.begins.free;
    })

-- n steps from there on lead to this phase in x, where the core's phase isn't written
so : {w a x : World} {c n : ℕ} {request : Request} {touch : Touch} {upto : Phase} (i : IsCalled w c request touch a)
    → Passes (later 2 a) c (Try touch) n upto x → StepsTo i.begun c (1 + n) (to c upto x) × ∥ IsReached (to c upto x) ∥₁
so {w} {a} {x} {c} {n} {request} {touch} {upto} i p = (
  steps_join i.begun (to c (Try touch) (later 2 a)) (to c upto x) c 1 n i.steps p.steps,
  passes_reached p i.reached,
)

-- It is, and the call goes on. The number of events tells how many steps these were: none of them is the call's own event.
pub goes_on : {w a x : World} {c n : ℕ} {request : Request} {touch : Touch} {upto : Phase} → IsCalled w c request touch a
    → Passes (later 2 a) c (Try touch) n upto x → n ≤ 9 → (u : World) → u ≡ to c upto x
    → Starts w c request (Started.Begun (u.calls.events - a.calls.events - 1)) u × ∥ IsReached u ∥₁
goes_on {w} {a} {x} {c} {n} {request} {touch} {upto} i p few u left =
    let events = ap (λ (y : World). y.calls.events) left ∙ p.events in
    let sum : 1 + n ≡ u.calls.events - a.calls.events - 1 = omega (arith, events) in
    let made = so i p in
    subst (λ k. Starts w c request (Started.Begun k) u × ∥ IsReached u ∥₁) sum
    (subst (λ y. Starts w c request (Started.Begun (1 + n)) y × ∥ IsReached y ∥₁) (sym left)
    ((omega (arith, few), (i.begun, i.begins, made.0)), made.1))

-- or the reply is handed out, and the core has no call again
pub ends : {w a x : World} {c n : ℕ} {request : Request} {touch : Touch} {reply : Reply} → IsCalled w c request touch a
    → Passes (later 2 a) c (Try touch) n (Answer reply) x → n ≤ 9
    → Starts w c request (Started.Ended (Answered reply)) (later 1 x) × ∥ IsReached (later 1 x) ∥₁
ends {w} {a} {x} {c} {n} {request} {touch} {reply} i p few =
    let made = so i p in
    let m = to c (Answer reply) x in
    let free = ap (λ f. f c) p.phases ∙ i.free in
    let last : Step m (Go c) (Answered reply) (later 1 x) =
    step_from x (later 1 x) c (Answered reply) (Answer reply) (omega arith) (subst (λ k. c < k) (sym p.cores) i.at.here)
    (refl, one_later x ∙ sym (to_twice (with_event x) c (Answer reply) Free ∙ to_same (with_event x) c Free free)) in (
      (Stepped, i.begun, i.begins, (1 + n, (omega (arith, few), (λ e. cc), (m, made.0, last)))),
      ∥∥₁_map made.1 (λ h. reached_step m (later 1 x) (Go c) (Answered reply) h last),
    )

-- a fault's steps, and the try before them
pub faults : {w x v : World} {c : ℕ} {touch : Touch} {r told : Option Reply} → r ≡ None → Passes w c (Try touch) 1 (tried_to touch r) x
    → (makes : Makes x c touch told v) → Passes w c (Try touch) (1 + makes.steps) (tried_to touch told) v × (1 + makes.steps ≤ 9)
faults {w} {x} {v} {c} {touch} {r} {told} none tried makes = (
  passes_join w x v c (Try touch) (locking (To.Access touch)) (tried_to touch told) 1 makes.steps
      (subst (λ o. Passes w c (Try touch) 1 (tried_to touch o) x) none tried) makes.passes,
  omega arith,
)
