-- What a step does to the calls and the log: it keeps them, logs the reply of a call, begins a call or ends one.
use Rattle.machine_model.proofs.Words.{◌≡◌, ℕ, Bool, true, false, cond, refl, sym, ap, subst, Some, None, Option, Result, Ok, Err, [], ◌∷◌, ◌++◌, ◌∙◌, nat_le}
use Rattle.machine_model.proofs.Words.{if◌then◌else◌, Back, Private, PageRange, Access, Plan, Touch, is_private_store, Reply, NoMemory, Goal}
use Rattle.machine_model.proofs.Words.{Target, Hint, Window, goal_range, Request, put, put_all, put_both, Slots, Event, Call, Go, Outcome, Stepped, Answered}
use Rattle.machine_model.proofs.Words.{Phase, Free, Lock, Unlock, Answer, Fill, Install, Release, memory_after, reply_of, after_frame, taken_for}
use Rattle.machine_model.proofs.Words.{after_install, back_of, after_zeros, after_first_copy, after_caching, after_sharing, after_copy_post, after_copy, to}
use Rattle.machine_model.proofs.Words.{with_entry, after_reply, let_go, answer_entry, detach_entry, slots_after, after_post, reply_to, with_counts, given_back}
use Rattle.machine_model.proofs.Words.{awaits_in, can_give_up, still_held, taken_in, locking, locked_to, all_locked, held_after, trying, back_to}
use Rattle.machine_model.proofs.Words.{after_translating, World, Hardware, Memory, after_call, MapErr, Mode, meta_of, is_page, page_of, pages_of, mode_of}
use Rattle.machine_model.proofs.Words.{refusal, Change, Put, Place, checked, plan_of, unless_refused, touch_of, place_of, nth}
use Rattle.vm_base.specs.declared.rights.Access.TheVariants.{Load, Store, Fetch}
use Rattle.slot_lock.specs.declared.plan.Plan.TheVariants as PlanOf
use Rattle.slot_lock.specs.declared.plan.Goal.TheVariants as To
use Rattle.slot_lock.specs.declared.plan.Target.TheVariants.{Run}
use Rattle.machine_model.specs.declared.event.Event.TheVariants as EventOf
use Rattle.machine_model.specs.declared.phase.Phase.TheVariants as At
use Rattle.vm_base.specs.declared.replies.Reply.TheVariants as ReplyOf
use Rattle.vm_base.specs.declared.requests.Request.TheVariants as RequestOf
use Rattle.machine_model.specs.Brackets.{IsStoreTo}
use Rattle.machine_model.specs.Orderly.{IsOrderly, Serves}
use Rattle.machine_model.proofs.Moves.{IsCallOf, call_at}
use Rattle.machine_model.proofs.Shapes.{IsInner, rests_inner, Moves, locks, tries, hints, seeks, guesses, turns, chooses, acts, finds, lacks, shows, Replies}
use Rattle.machine_model.proofs.Shapes.{refuses, no_place, declines, fails, no_frame, LetsGo, unlocks, returns, releases, GoesBy, moves, divides, cuts, fits}
use Rattle.machine_model.proofs.Shapes.{owns, lets_go, answers, posts, commits, takes, zeroes, first_copies, caches, shares, posts_copy, copies, installs}
use Rattle.machine_model.proofs.Shapes.{accesses, faults, Works, clears, invalidates, walks, evicts, flushes, reviews, frees, IsGoing, going, picking, IsAiming}
use Rattle.machine_model.proofs.Shapes.{at_run, at_window, Shape, rests, begins, ends, goes, aims, gives_up, works, joins}

-- a core has no call, one without a reply, or one with this reply
pub data Status : Type 0 where
  Closed : Status
  Asked : Status
  Told : Reply → Status

abbrev pub status : Phase → Status
status Free = Closed
status (Unlock held reply) = Told reply
status (Answer reply) = Told reply
status _ = Asked

abbrev pub statuses : World → ℕ → Status
statuses w c = status (w.calls.phase c)

pub record SameCalls (w v : World) : Type 0 where
  pub events : v.calls.events ≡ w.calls.events
  pub requests : v.calls.requests ≡ w.calls.requests
  pub number : v.calls.number ≡ w.calls.number

-- event e, counted in w, comes to outcome o and leaves v
pub data Effect (w : World) (e : Event) (o : Outcome) (v : World) : Type 0 where
  keeps : IsInner e o → SameCalls w v → v.calls.log ≡ w.calls.log → ((d : ℕ) → statuses v d ≡ statuses w d) → Effect w e o v
  tells : (c : ℕ) (reply : Reply) → IsInner e o → SameCalls w v → statuses w c ≡ Asked
      → v.calls.log ≡ w.calls.log ++ answer_entry w c reply ∷ []
      → ((d : ℕ) → statuses v d ≡ put (statuses w) c (Told reply) d) → Effect w e o v
  detaches : (c page : ℕ) (request : Request) → IsInner e o → SameCalls w v → statuses w c ≡ Asked
      → nth w.calls.requests (w.calls.number c) ≡ Some request → IsStoreTo request page
      → v.calls.log ≡ w.calls.log ++ detach_entry w c page ∷ [] → ((d : ℕ) → statuses v d ≡ statuses w d) → Effect w e o v
  opens : (c : ℕ) (request : Request) → e ≡ Call c request → o ≡ Stepped → statuses w c ≡ Closed → v ≡ after_call c request w → Effect w e o v
  closes : (c : ℕ) (reply : Reply) → e ≡ Go c → o ≡ Answered reply → statuses w c ≡ Told reply → v ≡ to c Free w → Effect w e o v

-- ---- calls that wait for nothing

-- the call in this phase awaits no core, and has taken no frame
pub record IsStill (phase : Phase) : Type 0 where
  pub awaits : awaits_in phase ≡ None
  pub taken : taken_in phase ≡ None

-- and it has no reply yet
pub record IsQuiet (phase : Phase) : Type 0 where
  pub asked : status phase ≡ Asked
  pub still : IsStill phase

quiet_at : {p q : Phase} → p ≡ q → status q ≡ Asked → awaits_in q ≡ None → taken_in q ≡ None → IsQuiet p
quiet_at e a n t = record { asked = ap status e ∙ a; still = record { awaits = ap awaits_in e ∙ n; taken = ap taken_in e ∙ t } }

-- before and after a step to another phase
pub moves_quiet : (w : World) (c : ℕ) (new : Phase) → Moves w c new → IsQuiet (w.calls.phase c) × IsQuiet new
moves_quiet w c new (locks request change e n k) = (quiet_at e refl refl refl, quiet_at n refl refl refl)
moves_quiet w c new (tries request touch e n k) = (quiet_at e refl refl refl, quiet_at n refl refl refl)
moves_quiet w c new (hints request place range e n i k) = (quiet_at e refl refl refl, quiet_at n refl refl refl)
moves_quiet w c new (seeks request place e n k) = (quiet_at e refl refl refl, quiet_at n refl refl refl)
moves_quiet w c new (guesses place found e n i) = (quiet_at e refl refl refl, quiet_at n refl refl refl)
moves_quiet w c new (turns place target e n d) = (quiet_at e refl refl refl, quiet_at n refl refl refl)
moves_quiet w c new (chooses place target range shoot e n d) = (quiet_at e refl refl refl, quiet_at n refl refl refl)
moves_quiet w c new (acts change range shoot e n d) = (quiet_at e refl refl refl, quiet_at n refl refl refl)
moves_quiet w c new (finds touch f e n u) = (quiet_at e refl refl refl, quiet_at n refl refl refl)
moves_quiet w c new (lacks touch old e n u d) = (quiet_at e refl refl refl, quiet_at n refl refl refl)
moves_quiet w c new (shows touch e n u d) = (quiet_at e refl refl refl, quiet_at n refl refl refl)

-- before a reply that changes nothing
pub replies_quiet : (w : World) (c : ℕ) (held : Option PageRange) (reply : Reply) → Replies w c held reply → IsQuiet (w.calls.phase c)
replies_quiet w c held reply (refuses request e h k) = quiet_at e refl refl refl
replies_quiet w c held reply (no_place place target errno e h r d) = quiet_at e refl refl refl
replies_quiet w c held reply (declines change errno e h r d) = quiet_at e refl refl refl
replies_quiet w c held reply (fails touch e h f) = quiet_at e refl refl refl
replies_quiet w c held reply (no_frame touch old e h r f) = quiet_at e refl refl refl

pub locked_quiet : (goal : Goal) (b : ℕ) → IsQuiet (locked_to goal b)
locked_quiet goal b = go goal (nat_le (goal_range goal).end b)
  where
    go : (goal : Goal) (p : Bool) → IsQuiet (cond p (all_locked goal) (Lock goal b))
    go (To.Place place target) true = quiet_at refl refl refl refl
    go (To.Change change) true = quiet_at refl refl refl refl
    go (To.Access touch) true = quiet_at refl refl refl refl
    go goal false = quiet_at refl refl refl refl

-- a mapping that looks elsewhere
pub back_quiet : (place : Place) (target : Target) (held : Option PageRange) → IsQuiet (back_to place target held)
back_quiet place target (Some held) = quiet_at refl refl refl refl
back_quiet place (Hint range) None = quiet_at refl refl refl refl
back_quiet place (Run range) None = quiet_at refl refl refl refl
back_quiet place Window None = quiet_at refl refl refl refl

-- a call that has its reply
pub let_go_still : (held : Option PageRange) (reply : Reply) → IsStill (let_go held reply)
let_go_still None reply = record { awaits = refl; taken = refl }
let_go_still (Some held) reply = record { awaits = refl; taken = refl }

-- before and after a slot is let go
pub lets_go_still : (old : Phase) (held : PageRange) (b : ℕ) (new : Phase) → LetsGo old held b new → IsStill old × IsStill new
lets_go_still old held b new (unlocks reply e n) =
    (subst IsStill (sym e) (record { awaits = refl; taken = refl }), subst IsStill (sym n) (let_go_still (held_after held b) reply))
lets_go_still old held b new (returns place target e n) =
    ((quiet_at e refl refl refl).still, subst IsStill (sym n) (back_quiet place target (held_after held b)).still)
lets_go_still old held b new (releases touch e h n) =
    ((quiet_at e refl refl refl).still, subst IsStill (sym n) (record { awaits = refl; taken = refl }))

-- a call that has just taken a frame
pub taken_asked : (touch : Touch) (old : Option ℕ) (f : ℕ)
    → (status (taken_for touch old f) ≡ Asked) × (awaits_in (taken_for touch old f) ≡ None)
taken_asked touch None f = (refl, refl)
taken_asked touch (Some g) f = (refl, refl)

-- ---- which request a copy serves

-- a request that is to store a byte of a page is a store to it
store_of : (core : ℕ) (request : Request) (touch : Touch) → plan_of core request ≡ Ok (PlanOf.Touch touch) → touch.access ≡ Store
    → IsStoreTo request touch.page
store_of core (RequestOf.Store addr byte) touch h a = go (is_page (page_of addr)) h
  where
    go : (b : Bool)
        → ◌≡◌ {A = Result Plan Reply} (if b then Ok (PlanOf.Touch (touch_of addr Store byte)) else Err (ReplyOf.Segv MapErr)) (Ok (PlanOf.Touch touch))
        → page_of addr ≡ touch.page
    go true e = let same : touch_of addr Store byte ≡ touch = cc in ap (λ t. t.page) same
    go false e = absurd cc
store_of core (RequestOf.Load addr) touch h a = absurd (go (is_page (page_of addr)) h)
  where
    go : (b : Bool) → ◌≡◌ {A = Result Plan Reply} (if b then Ok (PlanOf.Touch (touch_of addr Load 0)) else Err (ReplyOf.Segv MapErr)) (Ok (PlanOf.Touch touch))
        → ⊥
    go true e = let same : touch_of addr Load 0 ≡ touch = cc in let other = ap (λ t. t.access) same in cc (other, a)
    go false e = cc
store_of core (RequestOf.Fetch addr) touch h a = absurd (go (is_page (page_of addr)) h)
  where
    go : (b : Bool) → ◌≡◌ {A = Result Plan Reply} (if b then Ok (PlanOf.Touch (touch_of addr Fetch 0)) else Err (ReplyOf.Segv MapErr)) (Ok (PlanOf.Touch touch))
        → ⊥
    go true e = let same : touch_of addr Fetch 0 ≡ touch = cc in let other = ap (λ t. t.access) same in cc (other, a)
    go false e = cc
store_of core (RequestOf.Mmap addr len prot flags file off) touch h a =
    absurd (go flags.fixed (Put (pages_of addr len) (meta_of prot flags file off)) (place_of core addr len (meta_of prot flags file off)) h)
  where
    go : (b : Bool) (change : Change) (place : Place)
        → ◌≡◌ {A = Result Plan Reply} (if b then Ok (PlanOf.Change change) else Ok (PlanOf.Place place)) (Ok (PlanOf.Touch touch)) → ⊥
    go true change place e = cc
    go false change place e = cc
store_of core _ touch h a = absurd cc

store_asked : (modes : ℕ → Option Mode) (core : ℕ) (request : Request) (touch : Touch) → checked modes core request ≡ Ok (PlanOf.Touch touch)
    → touch.access ≡ Store → IsStoreTo request touch.page
store_asked modes core request touch h a = go (refusal modes request) h
  where
    go : (o : Option Reply) → unless_refused o (plan_of core request) ≡ Ok (PlanOf.Touch touch) → IsStoreTo request touch.page
    go None e = store_of core request touch e a
    go (Some reply) e = absurd cc

-- ---- the call of one core moves on

status_put : (g : ℕ → Phase) (c : ℕ) (phase : Phase) → status phase ≡ status (g c) → (d : ℕ) → status (put g c phase d) ≡ status (g d)
status_put g c phase e = put_all (λ d x. status x ≡ status (g d)) g c phase e (λ d ne. refl)

status_told : (g : ℕ → Phase) (c : ℕ) (phase : Phase) (s : Status) → status phase ≡ s → (d : ℕ) → status (put g c phase d) ≡ put (λ d. status (g d)) c s d
status_told g c phase s e = put_both (λ d x s. status x ≡ s) g (λ d. status (g d)) c phase s e (λ d ne. refl)

going_inner : (c : ℕ) (e : Event) → IsGoing c e → IsInner e Stepped
going_inner c e going = ((λ n. refl), refl)
going_inner c e (picking f) = ((λ n. refl), refl)

aiming_inner : (c : ℕ) (place : Place) (e : Event) (target : Target) → IsAiming c place e target → IsInner e Stepped
aiming_inner c place e target (at_run p run) = ((λ n. refl), refl)
aiming_inner c place e target at_window = ((λ n. refl), refl)

inner_of : (e f : Event) → e ≡ f → IsInner f Stepped → IsInner e Stepped
inner_of e f same i = subst (λ x. IsInner x Stepped) (sym same) i

work_inner : (w : World) (c : ℕ) (e : Event) (v : World) → Works w c e v → IsInner e Stepped
work_inner w c e v (clears i range k h) = inner_of e (EventOf.Take c) i ((λ n. refl), refl)
work_inner w c e v (invalidates i range k h) = inner_of e (EventOf.Take c) i ((λ n. refl), refl)
work_inner w c e v (walks p i k h) = inner_of e (EventOf.Walk c p) i ((λ n. refl), refl)
work_inner w c e v (evicts p i k h) = inner_of e (EventOf.Evict c p) i ((λ n. refl), refl)
work_inner w c e v (flushes i report counts k h) = inner_of e (EventOf.Flush c) i ((λ n. refl), refl)
work_inner w c e v (reviews i report counts k h) = inner_of e (EventOf.Review c) i ((λ n. refl), refl)
work_inner w c e v (frees i f counts k h) = inner_of e (EventOf.Review c) i ((λ n. refl), refl)

-- without a reply
goes_on : (w : World) (e : Event) (c : ℕ) (new : Phase) (t : Slots) (h : Hardware) (m : Memory) (v : World) → IsInner e Stepped → status new ≡ statuses w c
    → v ≡ to c new (record w { slots = t; hardware = h; memory = m }) → Effect w e Stepped v
goes_on w e c new t h m v i same k =
    subst (Effect w e Stepped) (sym k) (keeps i (record { events = refl; requests = refl; number = refl }) refl (status_put w.calls.phase c new same))

-- no call goes on
beside : (w : World) (e : Event) (t : Slots) (h : Hardware) (m : Memory) (v : World) → IsInner e Stepped
    → v ≡ record w { slots = t; hardware = h; memory = m } → Effect w e Stepped v
beside w e t h m v i k =
    subst (Effect w e Stepped) (sym k) (keeps i (record { events = refl; requests = refl; number = refl }) refl (λ d. refl))

pub told_in : (held : Option PageRange) (reply : Reply) → status (let_go held reply) ≡ Told reply
told_in None reply = refl
told_in (Some held) reply = refl

-- without a reply, with a copy of the page for its store
with_copy : (w : World) (e : Event) (c : ℕ) (touch : Touch) (new : Phase) (t : Slots) (h : Hardware) (m : Memory) (v : World) → IsInner e Stepped
    → statuses w c ≡ Asked → status new ≡ Asked → Serves w.made w.calls.requests c (w.calls.number c) (PlanOf.Touch touch)
    → touch.access ≡ Store
    → v ≡ to c new (with_entry (detach_entry w c touch.page) (record w { slots = t; hardware = h; memory = m })) → Effect w e Stepped v
with_copy w e c touch new t h m v i was still serves store k =
    subst (Effect w e Stepped) (sym k)
    (detaches c touch.page serves.request i (record { events = refl; requests = refl; number = refl }) was serves.number
    (store_asked (λ n. mode_of (w.made.file n)) c serves.request touch serves.passed store) refl
    (status_put w.calls.phase c new (still ∙ sym was)))

-- with its reply
with_reply : (w : World) (e : Event) (c : ℕ) (held : Option PageRange) (reply : Reply) (t : Slots) (h : Hardware) (m : Memory) (v : World) → IsInner e Stepped
    → statuses w c ≡ Asked → v ≡ after_reply c held reply (record w { slots = t; hardware = h; memory = m }) → Effect w e Stepped v
with_reply w e c held reply t h m v i was k =
    subst (Effect w e Stepped) (sym k)
    (tells c reply i (record { events = refl; requests = refl; number = refl }) was refl
    (status_told w.calls.phase c (let_go held reply) (Told reply) (told_in held reply)))

-- ---- the shapes

-- only a store gives a private page a copy
stores : (back : Back) (access : Access) → is_private_store back access ≡ true → access ≡ Store
stores (Private n k) Store h = refl
stores _ _ h = absurd cc

lets_go_same : (old : Phase) (held : PageRange) (b : ℕ) (new : Phase) → LetsGo old held b new → status new ≡ status old
lets_go_same old held b new (unlocks reply e n) = ap status n ∙ told_in (held_after held b) reply ∙ sym (ap status e)
lets_go_same old held b new (returns place target e n) = ap status n ∙ (back_quiet place target (held_after held b)).asked ∙ sym (ap status e)
lets_go_same old held b new (releases touch e h n) = ap status n ∙ sym (ap status e)

step_effect : (w : World) (e : Event) (c : ℕ) (v : World) → IsOrderly w → IsInner e Stepped → GoesBy w c v → Effect w e Stepped v
step_effect w e c v g i (moves new m h) =
    let (old, now) = moves_quiet w c new m in
    goes_on w e c new w.slots w.hardware w.memory v i (now.asked ∙ sym old.asked) h
step_effect w e c v g i (divides goal cursor t k s h) = beside w e t w.hardware w.memory v i h
step_effect w e c v g i (cuts place target range t k s h) = beside w e t w.hardware w.memory v i h
step_effect w e c v g i (fits place target range k cut h) =
    goes_on w e c (At.Acks (To.Place place target) (Put range place.meta)) w.slots w.hardware w.memory v i (sym (ap status k)) h
step_effect w e c v g i (owns goal cursor b t k l h) =
    goes_on w e c (locked_to goal b) t w.hardware w.memory v i ((locked_quiet goal b).asked ∙ sym (ap status k)) h
step_effect w e c v g i (lets_go held b t new l u h) = goes_on w e c new t w.hardware w.memory v i (lets_go_same (w.calls.phase c) held b new l) h
step_effect w e c v g i (answers held reply r h) = with_reply w e c held reply w.slots w.hardware w.memory v i (replies_quiet w c held reply r).asked h
step_effect w e c v g i (posts change shoot k h) =
    goes_on w e c (At.Acks (To.Change change) change) w.slots (after_post c change shoot w).hardware w.memory v i (sym (ap status k)) h
step_effect w e c v g i (commits goal change counts k n l h) =
    with_reply w e c (Some (goal_range goal)) (reply_to change) (slots_after change w.slots) w.hardware (with_counts counts w).memory v i (ap status k) h
step_effect w e c v g i (takes touch old f k l h) =
    goes_on w e c (taken_for touch old f) w.slots w.hardware (after_frame c touch old f w).memory v i ((taken_asked touch old f).0 ∙ sym (ap status k)) h
step_effect w e c v g i (zeroes touch f counts k b l h) =
    goes_on w e c (Install touch) (after_zeros c touch f counts w).slots w.hardware (after_zeros c touch f counts w).memory v i (sym (ap status k)) h
step_effect w e c v g i (first_copies touch f counts k store l h) =
    with_copy w e c touch (Install touch) (after_first_copy c touch f counts w).slots w.hardware (after_first_copy c touch f counts w).memory v i
    (ap status k) refl (call_at w c (Fill touch (Some f)) k g).asked (stores (back_of (w.slots.info touch.page)) touch.access store) h
step_effect w e c v g i (caches touch f counts k s n l h) =
    goes_on w e c (Install touch) (after_caching c touch f counts w).slots w.hardware (after_caching c touch f counts w).memory v i (sym (ap status k)) h
step_effect w e c v g i (shares touch own x counts k s n l h) =
    goes_on w e c (Install touch) (after_sharing c touch own x counts w).slots w.hardware (after_sharing c touch own x counts w).memory v i
    (sym (ap status k)) h
step_effect w e c v g i (posts_copy touch f k h) =
    goes_on w e c (At.CopyAcks touch f) w.slots (after_copy_post c touch f w).hardware w.memory v i (sym (ap status k)) h
step_effect w e c v g i (copies touch f x counts k n at l h) =
    let its : IsCallOf w c (At.CopyAcks touch f) = call_at w c (At.CopyAcks touch f) k g in
    with_copy w e c touch (Install touch) (after_copy c touch f x counts w).slots w.hardware (after_copy c touch f x counts w).memory v i
    (ap status k) refl its.asked (stores (back_of (w.slots.info touch.page)) touch.access its.ready.2.store) h
step_effect w e c v g i (installs touch k h) =
    goes_on w e c (Release touch) (after_install c touch w).slots (after_install c touch w).hardware w.memory v i (sym (ap status k)) h
step_effect w e c v g i (accesses touch f k l h) =
    with_reply w e c None (reply_of touch f w.memory) w.slots (after_translating w.hardware c touch) (memory_after touch f w.memory) v i (ap status k) h
step_effect w e c v g i (faults touch k l h) =
    goes_on w e c (locking (To.Access touch)) w.slots (after_translating w.hardware c touch) w.memory v i (sym (ap status k)) h

work_effect : (w : World) (e : Event) (c : ℕ) (v : World) → IsInner e Stepped → Works w c e v → Effect w e Stepped v
work_effect w e c v i (clears j range k h) = beside w e w.slots v.hardware w.memory v i (h ∙ ap (λ x. record w { hardware = x }) (sym (ap (λ v. v.hardware) h)))
work_effect w e c v i (invalidates j range k h) = beside w e w.slots v.hardware w.memory v i
    (h ∙ ap (λ x. record w { hardware = x }) (sym (ap (λ v. v.hardware) h)))
work_effect w e c v i (walks p j k h) = beside w e w.slots v.hardware w.memory v i (h ∙ ap (λ x. record w { hardware = x }) (sym (ap (λ v. v.hardware) h)))
work_effect w e c v i (evicts p j k h) = beside w e w.slots v.hardware w.memory v i (h ∙ ap (λ x. record w { hardware = x }) (sym (ap (λ v. v.hardware) h)))
work_effect w e c v i (flushes j report counts k h) = beside w e w.slots w.hardware v.memory v i
    (h ∙ ap (λ x. record w { memory = x }) (sym (ap (λ v. v.memory) h)))
work_effect w e c v i (reviews j report counts k h) = beside w e w.slots w.hardware v.memory v i
    (h ∙ ap (λ x. record w { memory = x }) (sym (ap (λ v. v.memory) h)))
work_effect w e c v i (frees j f counts k h) = beside w e w.slots w.hardware v.memory v i (h ∙ ap (λ x. record w { memory = x }) (sym (ap (λ v. v.memory) h)))

-- a call that may be given up has no reply yet
given_up_asked : (phase : Phase) → can_give_up phase ≡ true → status phase ≡ Asked
given_up_asked At.Free h = absurd cc
given_up_asked (At.Acks goal change) h = absurd cc
given_up_asked (At.Unlock held reply) h = absurd cc
given_up_asked (At.Answer reply) h = absurd cc
given_up_asked _ h = refl

pub effect_of : (w : World) (e : Event) (o : Outcome) (v : World) → IsOrderly w → Shape w e o v → Effect w e o v
effect_of w e o v g (rests r h) =
    subst (Effect w e o) (sym h) (keeps (rests_inner w e o r) (record { events = refl; requests = refl; number = refl }) refl (λ d. refl))
effect_of w e o v g (begins c request i s lt p below h) = opens c request i s (ap status p) h
effect_of w e o v g (ends c reply i s lt p h) = closes c reply i s (ap status p) h
effect_of w e o v g (goes c i s lt k) = subst (λ o. Effect w e o v) (sym s) (step_effect w e c v g (going_inner c e i) k)
effect_of w e o v g (aims c place target a s lt p h) =
    subst (λ o. Effect w e o v) (sym s)
    (goes_on w e c (trying place target) w.slots w.hardware w.memory v (aiming_inner c place e target a) (sym (ap status p)) h)
effect_of w e o v g (gives_up c i s lt can u h) =
    subst (λ o. Effect w e o v) (sym s)
    (with_reply w e c (still_held (w.calls.phase c)) NoMemory w.slots w.hardware
    (record w.memory { is_free = given_back (taken_in (w.calls.phase c)) w.memory.is_free }) v
    (subst (λ e. IsInner e Stepped) (sym i) ((λ n. refl), refl)) (given_up_asked (w.calls.phase c) can) h)
effect_of w e o v q (works c s lt g) = subst (λ o. Effect w e o v) (sym s) (work_effect w e c v (work_inner w c e v g) g)
effect_of w e o v g (joins p t i s page j m h) =
    subst (λ o. Effect w e o v) (sym s) (beside w e t w.hardware w.memory v (subst (λ e. IsInner e Stepped) (sym i) ((λ n. refl), refl)) h)
