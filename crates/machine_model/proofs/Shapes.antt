-- What a step is: it changes nothing, begins a call, ends one, or is one of a few things that a call in some phase does. Every
-- statement on steps is shown shape by shape, so that no row of the machine is taken apart twice.
use Rattle.machine_model.proofs.Words.{◌≡◌, ◌≢◌, ℕ, sym, ap, subst, ◌∙◌, ◌+◌, ◌<◌, ◌≤◌, inl, inr, Bool, true, false, cond, refl, arith, Some, None, Option}
use Rattle.machine_model.proofs.Words.{Result, Ok, Err, [], length, nat_lt, nat_le, ◌&&◌, ◌||◌, is_some, if◌then◌else◌, nat_tests, Back, Anon, Shared, Private}
use Rattle.machine_model.proofs.Words.{PageInfo, PageRange, Access, is_anonymous, frame_of, Errno, Reply, Request, File, IsPage, pages_from, IsLeastRoom}
use Rattle.machine_model.proofs.Words.{is_mapped, is_allowed, tlb_at, Counts, Takes, Begin, Inc, Flushing, Reviewing, Took, asked, remaining, Change}
use Rattle.machine_model.proofs.Words.{Clear, Protect, Goal, Place, Plan, Target, Hint, Window, Touch, Locked, Held, range_of, target_range, goal_range}
use Rattle.machine_model.proofs.Words.{IsTarget, Slots, Locks, Unlocks, IsSlotMap, Decision, Refuse, Act, Again, Settled, AccErr, Has, Copies, Cached, Wants}
use Rattle.machine_model.proofs.Words.{Decides, entries, no_page, no_write, settled, source, is_cached, is_private_store, Event, Call, Go, Outcome, Stepped}
use Rattle.machine_model.proofs.Words.{Idle, Answered, Full, Wait, Phase, Free, Check, Lock, Guess, Find, Cut, Decide, Post, Acks, Unlock, Answer, Try, Settle}
use Rattle.machine_model.proofs.Words.{Want, Fill, CopyPost, CopyAcks, Install, Release, found_at, is_past_end, after_finding, NoneFree, TakesThisFrame}
use Rattle.machine_model.proofs.Words.{after_frame, after_install, after_access, back_of, file_frame, FillsFromFile, FillsBacked, after_zeros}
use Rattle.machine_model.proofs.Words.{after_first_copy, after_caching, after_sharing, after_copy_post, after_copy, CountsCopy, Idles, Becomes, to}
use Rattle.machine_model.proofs.Words.{after_reply, let_go, checked_by, after_plan, after_post, after_commit, CountsLost, AwaitsNobody, Awaits, with_counts}
use Rattle.machine_model.proofs.Words.{with_free, ReportsFlush, ReportsReview, GivesUp, after_give_up, core_of, page_of_touch, awaits_in, can_give_up, locking}
use Rattle.machine_model.proofs.Words.{locked_to, held_after, placing, trying, guess_of, GuessesThisRun, TakesWindow, back_to, after_cuts, translated_by}
use Rattle.machine_model.proofs.Words.{frame_reached, after_translating, with_hardware, with_inbox, tables_cleared, tlb_invalidated, TakesMessage, can_walk}
use Rattle.machine_model.proofs.Words.{after_walk, after_eviction, World, Hardware, after_call, Begins, Goes, Acts, is_here, with_event, event_limit, Step}
use Rattle.vm_base.specs.declared.rights.Access.TheVariants.{Store}
use Rattle.vm_base.specs.declared.replies.SegvCode.TheVariants as Code
use Rattle.vm_base.specs.declared.replies.Reply.TheVariants as ReplyOf
use Rattle.vm_base.specs.Runs.{LiesIn}
use Rattle.refcache.specs.declared.reports.Flush.{Flush}
use Rattle.refcache.specs.declared.reports.Flush.TheVariants as flush
use Rattle.refcache.specs.declared.reports.Review.{Review}
use Rattle.refcache.specs.declared.reports.Review.TheVariants as review
use Rattle.mmu.specs.declared.message.Took.TheVariants as took
use Rattle.slot_lock.specs.declared.plan.Goal.TheVariants as To
use Rattle.slot_lock.specs.declared.plan.Plan.TheVariants as PlanOf
use Rattle.slot_lock.specs.declared.plan.Target.TheVariants.{Run}
use Rattle.slot_lock.specs.declared.slot_map.Fit.{Fit}
use Rattle.slot_lock.specs.declared.slot_map.Fit.TheVariants as fit
use Rattle.slot_lock.specs.declared.slot_map.Got.{Got}
use Rattle.slot_lock.specs.declared.slot_map.Got.TheVariants.{Split}
use Rattle.slot_lock.specs.Plan.{IsRunOf}
use Rattle.slot_lock.specs.Slots.{Steps, Splits, Joins, Cuts, IsCut, CutSteps}
use Rattle.vm_calls.specs.declared.fault.Settled.TheVariants.{MapErr, Bus}
use Rattle.vm_calls.specs.Decisions.DecidesProtect.{acts as protects}
use Rattle.machine_model.specs.declared.event.Blocker.TheVariants as WaitsFor
use Rattle.machine_model.specs.declared.event.Event.TheVariants as EventOf
use Rattle.machine_model.specs.declared.phase.Phase.TheVariants.{Back as Leaving}
use Rattle.machine_model.specs.Accesses.{after_translation, TakesFrame}
use Rattle.machine_model.specs.Filling.{CopiesNext}
use Rattle.machine_model.specs.Changes.{after_decision, CommitsNext}
use Rattle.machine_model.specs.Locks.{LocksTo, FoldsAt}
use Rattle.machine_model.specs.Placing.{GuessesNext}
use Rattle.machine_model.specs.Placing.{after_guess, after_finding_place, CutsTo}
use Rattle.machine_model.specs.Translating.{Walks, Evicts}
use Rattle.machine_model.specs.Brackets.{begun_by}
use Rattle.machine_model.specs.Orderly.{IsUsable, IsCopyDue, IsWanted, IsFillable}

-- ---- shapes

-- the reply that an outcome hands out
abbrev pub handed_out : Outcome → Option Reply
handed_out (Answered reply) = Some reply
handed_out _ = None

-- the event neither begins a call nor ends one
abbrev pub IsInner : Event → Outcome → Type 0
IsInner e o = ((n : ℕ) → begun_by n e o ≡ []) × (handed_out o ≡ None)

-- core c's call goes on to this phase, and nothing else changes
pub data Moves (w : World) (c : ℕ) (new : Phase) : Type 0 where
  locks : (request : Request) (change : Change) → w.calls.phase c ≡ Check request → new ≡ locking (To.Change change)
      → checked_by w.made c request ≡ Ok (PlanOf.Change change) → Moves w c new
  tries : (request : Request) (touch : Touch) → w.calls.phase c ≡ Check request → new ≡ Try touch
      → checked_by w.made c request ≡ Ok (PlanOf.Touch touch) → Moves w c new
  hints : (request : Request) (place : Place) (range : PageRange) → w.calls.phase c ≡ Check request → new ≡ trying place (Hint range)
      → place.hint ≡ Some range → checked_by w.made c request ≡ Ok (PlanOf.Place place) → Moves w c new
  seeks : (request : Request) (place : Place) → w.calls.phase c ≡ Check request → new ≡ Guess place
      → checked_by w.made c request ≡ Ok (PlanOf.Place place) → Moves w c new
  guesses : (place : Place) (found : Option ℕ) → w.calls.phase c ≡ Guess place → new ≡ trying place (guess_of place found)
      → IsLeastRoom (is_mapped (entries w.slots)) place.window place.count found → Moves w c new
  turns : (place : Place) (target : Target) → w.calls.phase c ≡ Find place target → new ≡ Leaving place target (target_range place target)
      → Decides w.made.file w.slots (To.Place place target) Again → Moves w c new
  chooses : (place : Place) (target : Target) (range : PageRange) (shoot : ℕ) → w.calls.phase c ≡ Find place target
      → new ≡ Cut place target range → Decides w.made.file w.slots (To.Place place target) (Act range shoot) → Moves w c new
  acts : (change : Change) (range : PageRange) (shoot : ℕ) → w.calls.phase c ≡ Decide change → new ≡ Post change shoot
      → Decides w.made.file w.slots (To.Change change) (Act range shoot) → Moves w c new
  finds : (touch : Touch) (f : ℕ) → w.calls.phase c ≡ Settle touch → new ≡ Install touch
      → IsUsable w.made.file (w.slots.info touch.page) touch.access (Some f) → Moves w c new
  lacks : (touch : Touch) (old : Option ℕ) → w.calls.phase c ≡ Settle touch → new ≡ Want touch old
      → IsUsable w.made.file (w.slots.info touch.page) touch.access old
      → IsWanted w.memory.cached (w.slots.info touch.page) touch.access old → Moves w c new
  shows : (touch : Touch) → w.calls.phase c ≡ Settle touch → new ≡ Fill touch None
      → IsUsable w.made.file (w.slots.info touch.page) touch.access None
      → IsFillable w.memory.cached (w.slots.info touch.page) touch.access None → Moves w c new

-- the fault that an access finds at its page
abbrev pub IsFault : Settled → Reply → Type 0
IsFault MapErr reply = reply ≡ ReplyOf.Segv Code.MapErr
IsFault AccErr reply = reply ≡ ReplyOf.Segv Code.AccErr
IsFault Bus reply = reply ≡ ReplyOf.Bus
IsFault _ reply = ⊥

-- core c's call, which holds this, has its reply, and nothing else changes
pub data Replies (w : World) (c : ℕ) (held : Option PageRange) (reply : Reply) : Type 0 where
  refuses : (request : Request) → w.calls.phase c ≡ Check request → held ≡ None → checked_by w.made c request ≡ Err reply → Replies w c held reply
  no_place : (place : Place) (target : Target) (errno : Errno) → w.calls.phase c ≡ Find place target
      → held ≡ Some (target_range place target) → reply ≡ ReplyOf.Refused errno
      → Decides w.made.file w.slots (To.Place place target) (Refuse errno) → Replies w c held reply
  declines : (change : Change) (errno : Errno) → w.calls.phase c ≡ Decide change → held ≡ Some (range_of change) → reply ≡ ReplyOf.Refused errno
      → Decides w.made.file w.slots (To.Change change) (Refuse errno) → Replies w c held reply
  fails : (touch : Touch) → w.calls.phase c ≡ Settle touch → held ≡ Some (page_of_touch touch) → IsFault (found_at w touch) reply
      → Replies w c held reply
  no_frame : (touch : Touch) (old : Option ℕ) → w.calls.phase c ≡ Want touch old → held ≡ Some (page_of_touch touch) → reply ≡ ReplyOf.NoFrame
      → NoneFree w.memory.is_free → Replies w c held reply

-- a call in this phase lets the pages of what it holds up to b go, and goes on to the new phase
pub data LetsGo (old : Phase) (held : PageRange) (b : ℕ) (new : Phase) : Type 0 where
  unlocks : (reply : Reply) → old ≡ Unlock held reply → new ≡ let_go (held_after held b) reply → LetsGo old held b new
  returns : (place : Place) (target : Target) → old ≡ Leaving place target held → new ≡ back_to place target (held_after held b)
      → LetsGo old held b new
  releases : (touch : Touch) → old ≡ Release touch → held ≡ page_of_touch touch → new ≡ Try touch → LetsGo old held b new

-- the page is of a file, and the access is no store that would give it a copy of its own
pub record IsShowing (info : Option PageInfo) (access : Access) : Type 0 where
  pub of_file : is_anonymous (back_of info) ≡ false
  pub no_copy : is_private_store (back_of info) access ≡ false

-- a plain step of core c's call
pub data GoesBy (w : World) (c : ℕ) (v : World) : Type 0 where
  moves : (new : Phase) → Moves w c new → v ≡ to c new w → GoesBy w c v
  divides : (goal : Goal) (cursor : ℕ) (t : Slots) → w.calls.phase c ≡ Lock goal cursor → Splits w.slots t cursor (goal_range goal).end
      → v ≡ record w { slots = t } → GoesBy w c v
  cuts : (place : Place) (target : Target) (range : PageRange) (t : Slots) → w.calls.phase c ≡ Cut place target range
      → Cuts w.slots t c range → v ≡ record w { slots = t } → GoesBy w c v
  fits : (place : Place) (target : Target) (range : PageRange) → w.calls.phase c ≡ Cut place target range → IsCut w.slots range
      → v ≡ after_cuts c place target range w → GoesBy w c v
  owns : (goal : Goal) (cursor b : ℕ) (t : Slots) → w.calls.phase c ≡ Lock goal cursor → Locks w.slots t c cursor (goal_range goal).end b
      → v ≡ to c (locked_to goal b) (record w { slots = t }) → GoesBy w c v
  lets_go : (held : PageRange) (b : ℕ) (t : Slots) (new : Phase) → LetsGo (w.calls.phase c) held b new
      → Unlocks w.slots t c held.first held.end b → v ≡ to c new (record w { slots = t }) → GoesBy w c v
  answers : (held : Option PageRange) (reply : Reply) → Replies w c held reply → v ≡ after_reply c held reply w → GoesBy w c v
  posts : (change : Change) (shoot : ℕ) → w.calls.phase c ≡ Post change shoot → v ≡ after_post c change shoot w → GoesBy w c v
  commits : (goal : Goal) (change : Change) (counts : Counts) → w.calls.phase c ≡ Acks goal change → AwaitsNobody w.hardware c
      → CountsLost c change w counts → v ≡ after_commit c change (goal_range goal) counts w → GoesBy w c v
  takes : (touch : Touch) (old : Option ℕ) (f : ℕ) → w.calls.phase c ≡ Want touch old → w.memory.is_free f ≡ true
      → v ≡ after_frame c touch old f w → GoesBy w c v
  zeroes : (touch : Touch) (f : ℕ) (counts : Counts) → w.calls.phase c ≡ Fill touch (Some f)
      → back_of (w.slots.info touch.page) ≡ Anon → Takes w.memory.counts (Begin f 1) counts → v ≡ after_zeros c touch f counts w → GoesBy w c v
  first_copies : (touch : Touch) (f : ℕ) (counts : Counts) → w.calls.phase c ≡ Fill touch (Some f)
      → is_private_store (back_of (w.slots.info touch.page)) touch.access ≡ true → Takes w.memory.counts (Begin f 1) counts
      → v ≡ after_first_copy c touch f counts w → GoesBy w c v
  caches : (touch : Touch) (f : ℕ) (counts : Counts) → w.calls.phase c ≡ Fill touch (Some f)
      → IsShowing (w.slots.info touch.page) touch.access → file_frame w.memory.cached (back_of (w.slots.info touch.page)) ≡ None
      → Takes w.memory.counts (Begin f 2) counts → v ≡ after_caching c touch f counts w → GoesBy w c v
  shares : (touch : Touch) (own : Option ℕ) (g : ℕ) (counts : Counts) → w.calls.phase c ≡ Fill touch own
      → IsShowing (w.slots.info touch.page) touch.access → file_frame w.memory.cached (back_of (w.slots.info touch.page)) ≡ Some g
      → Takes w.memory.counts (Inc c g) counts → v ≡ after_sharing c touch own g counts w → GoesBy w c v
  posts_copy : (touch : Touch) (f : ℕ) → w.calls.phase c ≡ CopyPost touch f → v ≡ after_copy_post c touch f w → GoesBy w c v
  copies : (touch : Touch) (f g : ℕ) (counts : Counts) → w.calls.phase c ≡ CopyAcks touch f → AwaitsNobody w.hardware c
      → frame_of (w.slots.info touch.page) ≡ Some g → CountsCopy c f g w.memory.counts counts
      → v ≡ after_copy c touch f g counts w → GoesBy w c v
  installs : (touch : Touch) → w.calls.phase c ≡ Install touch → v ≡ after_install c touch w → GoesBy w c v
  accesses : (touch : Touch) (f : ℕ) → w.calls.phase c ≡ Try touch → frame_reached (translated_by w.hardware c touch) ≡ Some f
      → v ≡ after_access c touch f (with_hardware (after_translating w.hardware c touch) w) → GoesBy w c v
  faults : (touch : Touch) → w.calls.phase c ≡ Try touch → frame_reached (translated_by w.hardware c touch) ≡ None
      → v ≡ to c (locking (To.Access touch)) (with_hardware (after_translating w.hardware c touch) w) → GoesBy w c v

-- what core c's hardware and counts do by an event, beside its call
pub data Works (w : World) (c : ℕ) (e : Event) (v : World) : Type 0 where
  clears : e ≡ EventOf.Take c → (range : PageRange) → asked (w.hardware.inbox c) ≡ took.Clear range
      → v ≡ with_hardware (with_inbox (tables_cleared w.hardware c range) c (remaining (w.hardware.inbox c))) w → Works w c e v
  invalidates : e ≡ EventOf.Take c → (range : PageRange) → asked (w.hardware.inbox c) ≡ took.Invalidate range
      → v ≡ with_hardware (with_inbox (tlb_invalidated w.hardware c range) c (remaining (w.hardware.inbox c))) w → Works w c e v
  walks : (p : ℕ) → e ≡ EventOf.Walk c p → can_walk w.hardware c p ≡ true → v ≡ with_hardware (after_walk w.hardware c p) w → Works w c e v
  evicts : (p : ℕ) → e ≡ EventOf.Evict c p → is_some (tlb_at (w.hardware.tlb c) p) ≡ true → v ≡ with_hardware (after_eviction w.hardware c p) w
      → Works w c e v
  flushes : e ≡ EventOf.Flush c → (report : Flush) (counts : Counts) → Takes w.memory.counts (Flushing c report) counts → v ≡ with_counts counts w
      → Works w c e v
  reviews : e ≡ EventOf.Review c → (report : Review) (counts : Counts) → Takes w.memory.counts (Reviewing c report) counts
      → v ≡ with_counts counts w → Works w c e v
  frees : e ≡ EventOf.Review c → (f : ℕ) (counts : Counts) → Takes w.memory.counts (Reviewing c (review.Freed f)) counts
      → v ≡ with_free f (with_counts counts w) → Works w c e v

-- the events by which a call goes on
pub data IsGoing (c : ℕ) : Event → Type 0 where
  going : IsGoing c (Go c)
  picking : (f : ℕ) → IsGoing c (EventOf.Frame c f)

-- the events by which a placed mapping is given a target, and the target
pub data IsAiming (c : ℕ) (place : Place) : Event → Target → Type 0 where
  at_run : (p : ℕ) → IsRunOf place.window place.count (pages_from p place.count)
      → IsAiming c place (EventOf.Guess c p) (Run (pages_from p place.count))
  at_window : IsAiming c place (EventOf.Whole c) Window

-- Why event e changes nothing: the machine lacks its core, its core has a call or has none, no call may begin any more, it isn't
-- possible, another core holds the slot at the cursor, or other cores haven't acknowledged.
pub data Rests (w : World) (e : Event) (o : Outcome) : Type 0 where
  absent : is_here w.made (core_of e) ≡ false → o ≡ Idle → Rests w e o
  busy : (c : ℕ) (request : Request) → e ≡ Call c request → w.calls.phase c ≢ Free → o ≡ Idle → Rests w e o
  full : (c : ℕ) (request : Request) → e ≡ Call c request → nat_lt (length w.calls.requests) w.made.calls ≡ false → o ≡ Full → Rests w e o
  free : (c : ℕ) → e ≡ Go c → w.calls.phase c ≡ Free → o ≡ Idle → Rests w e o
  cannot : ((c : ℕ) → e ≢ Go c) → ((c : ℕ) (request : Request) → e ≢ Call c request) → o ≡ Idle → Rests w e o
  waits : (c : ℕ) (goal : Goal) (cursor by : ℕ) → e ≡ Go c → w.calls.phase c ≡ Lock goal cursor → by ≢ c → w.slots.owner cursor ≡ Some by
      → o ≡ Wait (WaitsFor.Slot by) → Rests w e o
  awaits : (c : ℕ) (range : PageRange) (set : ℕ) → e ≡ Go c → awaits_in (w.calls.phase c) ≡ Some range → Awaits w.hardware c set
      → o ≡ Wait (WaitsFor.Acks set) → Rests w e o

-- a call that has told other cores to drop a page awaits none of them
abbrev pub IsUnawaited : Hardware → ℕ → Phase → Type 0
IsUnawaited h c (CopyAcks touch frame) = AwaitsNobody h c
IsUnawaited h c _ = Unit {0}

-- event e, counted in w, comes to outcome o and leaves v
pub data Shape (w : World) (e : Event) (o : Outcome) (v : World) : Type 0 where
  rests : Rests w e o → v ≡ w → Shape w e o v
  begins : (c : ℕ) (request : Request) → e ≡ Call c request → o ≡ Stepped → c < w.made.cores → w.calls.phase c ≡ Free
      → length w.calls.requests < w.made.calls → v ≡ after_call c request w → Shape w e o v
  ends : (c : ℕ) (reply : Reply) → e ≡ Go c → o ≡ Answered reply → c < w.made.cores → w.calls.phase c ≡ Answer reply
      → v ≡ to c Free w → Shape w e o v
  goes : (c : ℕ) → IsGoing c e → o ≡ Stepped → c < w.made.cores → GoesBy w c v → Shape w e o v
  aims : (c : ℕ) (place : Place) (target : Target) → IsAiming c place e target → o ≡ Stepped → c < w.made.cores → w.calls.phase c ≡ Guess place
      → v ≡ after_guess c place target w → Shape w e o v
  gives_up : (c : ℕ) → e ≡ EventOf.GiveUp c → o ≡ Stepped → c < w.made.cores → can_give_up (w.calls.phase c) ≡ true
      → IsUnawaited w.hardware c (w.calls.phase c) → v ≡ after_give_up c (w.calls.phase c) w → Shape w e o v
  works : (c : ℕ) → o ≡ Stepped → c < w.made.cores → Works w c e v → Shape w e o v
  joins : (p : ℕ) (t : Slots) → e ≡ EventOf.Fold p → o ≡ Stepped → IsPage p → Joins w.slots t → IsSlotMap t → v ≡ record w { slots = t }
      → Shape w e o v

-- at the limit of events nothing happens, and every other event is counted
pub data Comes (w : World) (e : Event) (o : Outcome) (v : World) : Type 0 where
  stopped : nat_lt w.calls.events event_limit ≡ false → IsInner e o → v ≡ w → Comes w e o v
  acts : nat_lt w.calls.events event_limit ≡ true → Shape (with_event w) e o v → Comes w e o v

-- the target is of the mapping
pub aimed : (c : ℕ) (place : Place) (e : Event) (target : Target) → IsAiming c place e target → IsTarget place target
aimed c place e target (at_run p run) = run
aimed c place e target at_window = tt

-- ---- every step has one

inner_full : (e : Event) → IsInner e Full
inner_full (Call c request) = ((λ n. refl), refl)
inner_full _ = ((λ n. refl), refl)

inner_idle : (e : Event) → IsInner e Idle
inner_idle (Call c request) = ((λ n. refl), refl)
inner_idle _ = ((λ n. refl), refl)

-- an event that changes nothing neither begins a call nor ends one
pub rests_inner : (w : World) (e : Event) (o : Outcome) → Rests w e o → IsInner e o
rests_inner w e o (absent h i) = rw i (inner_idle e)
rests_inner w e o (busy c request h n i) = rw i (inner_idle e)
rests_inner w e o (full c request h n i) = rw i (inner_full e)
rests_inner w e o (free c h n i) = rw i (inner_idle e)
rests_inner w e o (cannot g k i) = rw i (inner_idle e)
rests_inner w e o (waits c goal cursor by h p ne own i) = rw (h, i) ((λ n. refl), refl)
rests_inner w e o (awaits c range set h p a i) = rw (h, i) ((λ n. refl), refl)

below : (a b : ℕ) → nat_lt a b ≡ true → a < b
below a b h = grind (arith, nat_tests)

call_shape : (w : World) (c : ℕ) (request : Request) (phase : Phase) (o : Outcome) (v : World) → c < w.made.cores → w.calls.phase c ≡ phase
    → Begins w c request phase o v → Shape w (Call c request) o v
call_shape w c request Free o v lt e h = go (nat_lt (length w.calls.requests) w.made.calls) refl h
  where
    go : (b : Bool) → nat_lt (length w.calls.requests) w.made.calls ≡ b → cond b (Becomes (after_call c request w) o v) ((o ≡ Full)
        × (v ≡ w)) → Shape w (Call c request) o v
    go true i k = begins c request refl k.0 lt e (below _ _ i) k.1
    go false i k = rests (full c request refl i k.0) k.1
call_shape w c request _ o v lt e h = rests (busy c request refl (λ f. let a = sym e ∙ f in cc) h.0) h.1

-- a step of core c's call that is plain
step : (w : World) (c : ℕ) (o : Outcome) (v : World) → c < w.made.cores → o ≡ Stepped → GoesBy w c v → Shape w (Go c) o v
step w c o v lt s g = goes c going s lt g

-- by whether the mapping has a hint
place_shape : (w : World) (c : ℕ) (request : Request) (place : Place) (hint : Option PageRange) (v : World) → w.calls.phase c ≡ Check request
    → place.hint ≡ hint → checked_by w.made c request ≡ Ok (PlanOf.Place place) → v ≡ to c (placing place hint) w → GoesBy w c v
place_shape w c request place None v e i k h = moves (Guess place) (seeks request place e refl k) h
place_shape w c request place (Some range) v e i k h = moves (trying place (Hint range)) (hints request place range e refl i k) h

check_shape : (w : World) (c : ℕ) (request : Request) (o : Outcome) (v : World) (r : Result Plan Reply) → w.calls.phase c ≡ Check request
    → checked_by w.made c request ≡ r
    → v ≡ after_plan c r w → GoesBy w c v
check_shape w c request o v (Err reply) e k h = answers None reply (refuses request e refl k) h
check_shape w c request o v (Ok (PlanOf.Place place)) e k h = place_shape w c request place place.hint v e refl k h
check_shape w c request o v (Ok (PlanOf.Change change)) e k h = moves (locking (To.Change change)) (locks request change e refl k) h
check_shape w c request o v (Ok (PlanOf.Touch touch)) e k h = moves (Try touch) (tries request touch e refl k) h

lock_shape : (w : World) (c : ℕ) (goal : Goal) (cursor : ℕ) (got : Got) (t : Slots) (o : Outcome) (v : World) → c < w.made.cores
    → w.calls.phase c ≡ Lock goal cursor
    → Steps w.slots t c cursor (goal_range goal).end got → LocksTo w c goal t got o v → Shape w (Go c) o v
lock_shape w c goal cursor Split t o v lt e s h = step w c o v lt h.0 (divides goal cursor t e s h.1)
lock_shape w c goal cursor (Locked b) t o v lt e s h = step w c o v lt h.0 (owns goal cursor b t e s h.1)
lock_shape w c goal cursor (Held by) t o v lt e s h = rests (waits c goal cursor by refl e s.0 s.1 h.0) h.1

-- ---- a placed mapping

run_of : (window : PageRange) (n first : ℕ) → LiesIn window n first → IsRunOf window n (pages_from first n)
run_of window n first inside = record { size = refl; inside = inside }

pub guess_is_target : (mapped : ℕ → Bool) (place : Place) (found : Option ℕ) → IsLeastRoom mapped place.window place.count found
    → IsTarget place (guess_of place found)
guess_is_target mapped place None h = tt
guess_is_target mapped place (Some first) h = run_of place.window place.count first h.0.0

guess_shape : (w : World) (c : ℕ) (place : Place) (o : Outcome) (v : World) → c < w.made.cores → w.calls.phase c ≡ Guess place
    → GuessesNext w c place o v → Shape w (Go c) o v
guess_shape w c place o v lt e h = step w c o v lt h.2.0 (moves (trying place (guess_of place h.0)) (guesses place h.0 e refl h.1) h.2.1)

find_shape : (w : World) (c : ℕ) (place : Place) (target : Target) (d : Decision) (v : World) → w.calls.phase c ≡ Find place target
    → Decides w.made.file w.slots (To.Place place target) d → v ≡ after_finding_place c place target d w → GoesBy w c v
find_shape w c place target (Refuse errno) v e d h =
    answers (Some (target_range place target)) (ReplyOf.Refused errno) (no_place place target errno e refl refl d) h
find_shape w c place target (Act range shoot) v e d h = moves (Cut place target range) (chooses place target range shoot e refl d) h
find_shape w c place target Again v e d h = moves (Leaving place target (target_range place target)) (turns place target e refl d) h

cut_shape : (w : World) (c : ℕ) (place : Place) (target : Target) (range : PageRange) (f : Fit) (t : Slots) (o : Outcome) (v : World)
    → c < w.made.cores → w.calls.phase c ≡ Cut place target range → CutSteps w.slots t c range f
    → CutsTo w t f (after_cuts c place target range w) o v → Shape w (Go c) o v
cut_shape w c place target range fit.Cut t o v lt e s h = step w c o v lt h.0 (cuts place target range t e s h.1)
cut_shape w c place target range fit.Fits t o v lt e s h =
    step w c o v lt h.0 (fits place target range e s.0 h.1)

-- ---- changes

-- a change whose range is given never looks elsewhere
no_again : (files : ℕ → Option File) (s : Slots) (change : Change) → Decides files s (To.Change change) Again → ⊥
no_again files s (Protect range prot) (no_page a e) = cc
no_again files s (Protect range prot) (no_write a k r e) = cc
no_again files s (Protect range prot) (protects a r k) = k
no_again files s _ h = h

decide_shape : (w : World) (c : ℕ) (change : Change) (d : Decision) (v : World) → w.calls.phase c ≡ Decide change
    → Decides w.made.file w.slots (To.Change change) d
    → v ≡ after_decision c change d w → GoesBy w c v
decide_shape w c change (Refuse errno) v e d h = answers (Some (range_of change)) (ReplyOf.Refused errno) (declines change errno e refl refl d) h
decide_shape w c change (Act range shoot) v e d h = moves (Post change shoot) (acts change range shoot e refl d) h
decide_shape w c change Again v e d h = absurd (no_again w.made.file w.slots change d)

try_shape : (w : World) (c : ℕ) (touch : Touch) (frame : Option ℕ) (v : World) → w.calls.phase c ≡ Try touch
    → frame_reached (translated_by w.hardware c touch) ≡ frame
    → v ≡ after_translation c touch frame (with_hardware (after_translating w.hardware c touch) w) → GoesBy w c v
try_shape w c touch (Some f) v e k h = accesses touch f e k h
try_shape w c touch None v e k h = faults touch e k h

-- what an access finds that isn't a fault
abbrev Finds : (ℕ → Option File) → (ℕ → ℕ → Option ℕ) → Option PageInfo → Access → Settled → Type 0
Finds file cached info access (Has f) = IsUsable file info access (Some f)
Finds file cached info access (Copies f) = IsUsable file info access (Some f) × IsCopyDue cached info access f
Finds file cached info access (Cached f) = IsUsable file info access None × IsFillable cached info access None
Finds file cached info access Wants = IsUsable file info access None
Finds file cached info access _ = Unit {0}

-- by where the frame of a usable page comes from
found_source : (file : ℕ → Option File) (cached : ℕ → ℕ → Option ℕ) (info : PageInfo) (access : Access) (frame shown : Option ℕ)
    → IsUsable file (Some info) access frame → file_frame cached info.meta.back ≡ shown
    → Finds file cached (Some info) access (source info.meta.back frame access shown)
found_source file cached info access (Some f) shown u e = go (is_private_store info.meta.back access) (is_cached shown f) refl refl
  where
    go : (a b : Bool) → is_private_store info.meta.back access ≡ a → is_cached shown f ≡ b
        → Finds file cached (Some info) access (if a && b then Copies f else Has f)
    go true true i j = (u, record { store = i; shown = ap (λ o. is_cached o f) e ∙ j })
    go _ _ i j = u
found_source file cached info access None None u e = u
found_source file cached info access None (Some g) u e = go (is_private_store info.meta.back access) (is_anonymous info.meta.back) refl
  where
    go : (a b : Bool) → is_private_store info.meta.back access ≡ a
        → Finds file cached (Some info) access (if a || b then Wants else Cached g)
    go false false i = (u, (i, (g, e)))
    go _ _ i = u

found : (file : ℕ → Option File) (cached : ℕ → ℕ → Option ℕ) (info : Option PageInfo) (access : Access)
    → Finds file cached info access (settled info access (is_past_end file info) (file_frame cached (back_of info)))
found file cached None access = tt
found file cached (Some info) access = go (is_allowed info.meta.prot access) (is_past_end file (Some info)) refl refl
  where
    go : (a b : Bool) → is_allowed info.meta.prot access ≡ a → is_past_end file (Some info) ≡ b
        → Finds file cached (Some info) access
        (if a then (if b then Bus else source info.meta.back info.frame access (file_frame cached info.meta.back)) else AccErr)
    go true false i j = found_source file cached info access info.frame (file_frame cached info.meta.back) (i, j, refl) refl
    go _ _ i j = tt

settle_shape : (w : World) (c : ℕ) (touch : Touch) (s : Settled) (v : World) → w.calls.phase c ≡ Settle touch → found_at w touch ≡ s
    → Finds w.made.file w.memory.cached (w.slots.info touch.page) touch.access s → v ≡ after_finding c touch s w → GoesBy w c v
settle_shape w c touch MapErr v e k f h = answers (Some (page_of_touch touch)) (ReplyOf.Segv Code.MapErr) (fails touch e refl (rw k refl)) h
settle_shape w c touch AccErr v e k f h = answers (Some (page_of_touch touch)) (ReplyOf.Segv Code.AccErr) (fails touch e refl (rw k refl)) h
settle_shape w c touch Bus v e k f h = answers (Some (page_of_touch touch)) ReplyOf.Bus (fails touch e refl (rw k refl)) h
settle_shape w c touch (Has g) v e k f h = moves (Install touch) (finds touch g e refl f) h
settle_shape w c touch (Copies g) v e k f h = moves (Want touch (Some g)) (lacks touch (Some g) e refl f.0 f.1) h
settle_shape w c touch (Cached g) v e k f h = moves (Fill touch None) (shows touch e refl f.0 f.1) h
settle_shape w c touch Wants v e k f h = moves (Want touch None) (lacks touch None e refl f tt) h

want_shape : (w : World) (c : ℕ) (touch : Touch) (old : Option ℕ) (o : Outcome) (v : World) → c < w.made.cores
    → w.calls.phase c ≡ Want touch old → TakesFrame w c touch old o v → Shape w (Go c) o v
want_shape w c touch old o v lt e (inl h) =
    step w c o v lt h.1.0 (answers (Some (page_of_touch touch)) ReplyOf.NoFrame (no_frame touch old e refl refl h.0) h.1.1)
want_shape w c touch old o v lt e (inr h) = step w c o v lt h.2.0 (takes touch old h.0 e h.1.free h.2.1)

-- by what backs the page, and the access
from_file : (w : World) (c : ℕ) (touch : Touch) (own shown : Option ℕ) (o : Outcome) (v : World) → c < w.made.cores
    → w.calls.phase c ≡ Fill touch own → IsShowing (w.slots.info touch.page) touch.access
    → file_frame w.memory.cached (back_of (w.slots.info touch.page)) ≡ shown
    → FillsFromFile w c touch own shown o v → Shape w (Go c) o v
from_file w c touch own (Some g) o v lt e s i h = step w c o v lt h.2.0 (shares touch own g h.0 e s i h.1 h.2.1)
from_file w c touch (Some f) None o v lt e s i h = step w c o v lt h.2.0 (caches touch f h.0 e s i h.1 h.2.1)
from_file w c touch None None o v lt e s i h = absurd h

fill_shape : (w : World) (c : ℕ) (touch : Touch) (own : Option ℕ) (back : Back) (access : Access) (o : Outcome) (v : World)
    → c < w.made.cores → w.calls.phase c ≡ Fill touch own → back_of (w.slots.info touch.page) ≡ back → touch.access ≡ access
    → FillsBacked w c touch own back access o v → Shape w (Go c) o v
fill_shape w c touch (Some f) Anon access o v lt e b a h = step w c o v lt h.2.0 (zeroes touch f h.0 e b h.1 h.2.1)
fill_shape w c touch None Anon access o v lt e b a h = absurd h
fill_shape w c touch own (Shared n k) access o v lt e b a h =
    from_file w c touch own (w.memory.cached n k) o v lt e (record { of_file = rw b refl; no_copy = rw b refl }) (rw b refl) h
fill_shape w c touch (Some f) (Private n k) Store o v lt e b a h =
    step w c o v lt h.2.0 (first_copies touch f h.0 e (rw (b, a) refl) h.1 h.2.1)
fill_shape w c touch None (Private n k) Store o v lt e b a h = absurd h
fill_shape w c touch own (Private n k) _ o v lt e b a h =
    from_file w c touch own (w.memory.cached n k) o v lt e (record { of_file = rw b refl; no_copy = rw (b, a) refl }) (rw b refl) h

copy_shape : (w : World) (c : ℕ) (touch : Touch) (f : ℕ) (o : Outcome) (v : World) → c < w.made.cores
    → w.calls.phase c ≡ CopyAcks touch f → CopiesNext w c touch f o v → Shape w (Go c) o v
copy_shape w c touch f o v lt e (inl h) =
    step w c o v lt h.1.4.0 (copies touch f h.1.0 h.1.1 e h.0 h.1.2 h.1.3 h.1.4.1)
copy_shape w c touch f o v lt e (inr h) = rests (awaits c (page_of_touch touch) h.0 refl (ap awaits_in e) h.1 h.2) h.3

acks_shape : (w : World) (c : ℕ) (goal : Goal) (change : Change) (o : Outcome) (v : World) → c < w.made.cores
    → w.calls.phase c ≡ Acks goal change → CommitsNext w c change (goal_range goal) o v → Shape w (Go c) o v
acks_shape w c goal change o v lt e (inl h) = step w c o v lt h.1.2.0 (commits goal change h.1.0 e h.0 h.1.1 h.1.2.1)
acks_shape w c goal change o v lt e (inr h) = rests (awaits c (range_of change) h.0 refl (ap awaits_in e) h.1 h.2) h.3

go_shape : (w : World) (c : ℕ) (phase : Phase) (o : Outcome) (v : World) → c < w.made.cores → w.calls.phase c ≡ phase → Goes w c phase o v → Shape w (Go c) o v
go_shape w c Free o v lt e h = rests (free c refl e h.0) h.1
go_shape w c (Check request) o v lt e h = step w c o v lt h.0 (check_shape w c request o v (checked_by w.made c request) e refl h.1)
go_shape w c (Lock goal cursor) o v lt e h = lock_shape w c goal cursor h.0 h.1.0 o v lt e h.1.1 h.1.2
go_shape w c (Guess place) o v lt e h = guess_shape w c place o v lt e h
go_shape w c (Find place target) o v lt e h = step w c o v lt h.2.0 (find_shape w c place target h.0 v e h.1 h.2.1)
go_shape w c (Leaving place target held) o v lt e h = step w c o v lt h.1.2.0 (lets_go held h.0 h.1.0 (back_to place target (held_after held h.0))
    (returns place target e refl) h.1.1 h.1.2.1)
go_shape w c (Cut place target range) o v lt e h = cut_shape w c place target range h.0 h.1.0 o v lt e h.1.1 h.1.2
go_shape w c (Decide change) o v lt e h = step w c o v lt h.2.0 (decide_shape w c change h.0 v e h.1 h.2.1)
go_shape w c (Post change shoot) o v lt e h = step w c o v lt h.0 (posts change shoot e h.1)
go_shape w c (Acks goal change) o v lt e h = acks_shape w c goal change o v lt e h
go_shape w c (Unlock held reply) o v lt e h = step w c o v lt h.1.2.0 (lets_go held h.0 h.1.0 (let_go (held_after held h.0) reply)
    (unlocks reply e refl) h.1.1 h.1.2.1)
go_shape w c (Answer reply) o v lt e h = ends c reply refl h.0 lt e h.1
go_shape w c (Try touch) o v lt e h = step w c o v lt h.0 (try_shape w c touch (frame_reached (translated_by w.hardware c touch)) v e refl h.1)
go_shape w c (Settle touch) o v lt e h =
    step w c o v lt h.0 (settle_shape w c touch (found_at w touch) v e refl (found w.made.file w.memory.cached (w.slots.info touch.page) touch.access) h.1)
go_shape w c (Want touch old) o v lt e h = want_shape w c touch old o v lt e h
go_shape w c (Fill touch own) o v lt e h = fill_shape w c touch own (back_of (w.slots.info touch.page)) touch.access o v lt e refl refl h
go_shape w c (CopyPost touch f) o v lt e h = step w c o v lt h.0 (posts_copy touch f e h.1)
go_shape w c (CopyAcks touch f) o v lt e h = copy_shape w c touch f o v lt e h
go_shape w c (Install touch) o v lt e h = step w c o v lt h.0 (installs touch e h.1)
go_shape w c (Release touch) o v lt e h = step w c o v lt h.1.2.0 (lets_go (page_of_touch touch) h.0 h.1.0 (Try touch)
    (releases touch e refl refl) h.1.1 h.1.2.1)

-- ---- the other events

-- an event of another kind that isn't possible
idles : (w : World) (e : Event) (o : Outcome) (v : World) → ((c : ℕ) → e ≢ Go c) → ((c : ℕ) (request : Request) → e ≢ Call c request)
    → Idles w o v → Shape w e o v
idles w e o v not_go not_call h = rests (cannot not_go not_call h.0) h.1

frame_shape : (w : World) (c f : ℕ) (phase : Phase) (o : Outcome) (v : World) → c < w.made.cores → w.calls.phase c ≡ phase
    → TakesThisFrame w c phase f o v → Shape w (EventOf.Frame c f) o v
frame_shape w c f (Want touch old) o v lt e h = go (w.memory.is_free f) refl h
  where
    go : (b : Bool) → w.memory.is_free f ≡ b → cond b (Becomes (after_frame c touch old f w) o v) (Idles w o v) → Shape w (EventOf.Frame c f) o v
    go true i k = goes c (picking f) k.0 lt (takes touch old f e i k.1)
    go false i k = idles w (EventOf.Frame c f) o v (λ d x. cc) (λ d r x. cc) k
frame_shape w c f _ o v lt e h = idles w (EventOf.Frame c f) o v (λ d x. cc) (λ d r x. cc) h

-- a run that a placed mapping is to guess, where it looks for a place
run_shape : (w : World) (c first : ℕ) (phase : Phase) (o : Outcome) (v : World) → c < w.made.cores → w.calls.phase c ≡ phase
    → GuessesThisRun w c phase first o v → Shape w (EventOf.Guess c first) o v
run_shape w c first (Guess place) o v lt e h = go (nat_le place.window.first first) (nat_le (first + place.count) place.window.end) refl refl h
  where
    upto : (a b : ℕ) → nat_le a b ≡ true → a ≤ b
    upto a b h = grind (arith, nat_tests)

    go : (a b : Bool) → nat_le place.window.first first ≡ a → nat_le (first + place.count) place.window.end ≡ b
        → cond (a && b) (Becomes (after_guess c place (Run (pages_from first place.count)) w) o v) (Idles w o v) → Shape w (EventOf.Guess c first) o v
    go true true i j k = aims c place (Run (pages_from first place.count))
        (at_run first (run_of place.window place.count first (record { low = upto _ _ i; high = upto _ _ j }))) k.0 lt e k.1
    go true false i j k = idles w (EventOf.Guess c first) o v (λ d x. cc) (λ d r x. cc) k
    go false b i j k = idles w (EventOf.Guess c first) o v (λ d x. cc) (λ d r x. cc) k
run_shape w c first _ o v lt e h = idles w (EventOf.Guess c first) o v (λ d x. cc) (λ d r x. cc) h

window_shape : (w : World) (c : ℕ) (phase : Phase) (o : Outcome) (v : World) → c < w.made.cores → w.calls.phase c ≡ phase
    → TakesWindow w c phase o v → Shape w (EventOf.Whole c) o v
window_shape w c (Guess place) o v lt e h = aims c place Window at_window h.0 lt e h.1
window_shape w c _ o v lt e h = idles w (EventOf.Whole c) o v (λ d x. cc) (λ d r x. cc) h

take_shape : (w : World) (c : ℕ) (t : Took) (o : Outcome) (v : World) → c < w.made.cores → asked (w.hardware.inbox c) ≡ t
    → TakesMessage w c t o v → Shape w (EventOf.Take c) o v
take_shape w c (took.Clear range) o v lt e h = works c h.0 lt (clears refl range e h.1)
take_shape w c (took.Invalidate range) o v lt e h = works c h.0 lt (invalidates refl range e h.1)
take_shape w c took.Idle o v lt e h = idles w (EventOf.Take c) o v (λ d x. cc) (λ d r x. cc) h

walk_shape : (w : World) (c p : ℕ) (o : Outcome) (v : World) → c < w.made.cores → Walks w c p o v → Shape w (EventOf.Walk c p) o v
walk_shape w c p o v lt h = go (can_walk w.hardware c p) refl h
  where
    go : (b : Bool) → can_walk w.hardware c p ≡ b → cond b (Becomes (with_hardware (after_walk w.hardware c p) w) o v) (Idles w o v)
        → Shape w (EventOf.Walk c p) o v
    go true i k = works c k.0 lt (walks p refl i k.1)
    go false i k = idles w (EventOf.Walk c p) o v (λ d x. cc) (λ d r x. cc) k

evict_shape : (w : World) (c p : ℕ) (o : Outcome) (v : World) → c < w.made.cores → Evicts w c p o v → Shape w (EventOf.Evict c p) o v
evict_shape w c p o v lt h = go (is_some (tlb_at (w.hardware.tlb c) p)) refl h
  where
    go : (b : Bool) → is_some (tlb_at (w.hardware.tlb c) p) ≡ b
        → cond b (Becomes (with_hardware (after_eviction w.hardware c p) w) o v) (Idles w o v) → Shape w (EventOf.Evict c p) o v
    go true i k = works c k.0 lt (evicts p refl i k.1)
    go false i k = idles w (EventOf.Evict c p) o v (λ d x. cc) (λ d r x. cc) k

flush_shape : (w : World) (c : ℕ) (report : Flush) (counts : Counts) (o : Outcome) (v : World) → c < w.made.cores
    → Takes w.memory.counts (Flushing c report) counts → ReportsFlush w report counts o v → Shape w (EventOf.Flush c) o v
flush_shape w c (flush.Evicted p) counts o v lt t h = works c h.0 lt (flushes refl (flush.Evicted p) counts t h.1)
flush_shape w c flush.Flushed counts o v lt t h = works c h.0 lt (flushes refl flush.Flushed counts t h.1)
flush_shape w c flush.EpochEnded counts o v lt t h = works c h.0 lt (flushes refl flush.EpochEnded counts t h.1)
flush_shape w c flush.Idle counts o v lt t h = idles w (EventOf.Flush c) o v (λ d x. cc) (λ d r x. cc) h

review_shape : (w : World) (c : ℕ) (report : Review) (counts : Counts) (o : Outcome) (v : World) → c < w.made.cores
    → Takes w.memory.counts (Reviewing c report) counts → ReportsReview w report counts o v → Shape w (EventOf.Review c) o v
review_shape w c (review.Freed f) counts o v lt t h = works c h.0 lt (frees refl f counts t h.1)
review_shape w c (review.Requeued p) counts o v lt t h = works c h.0 lt (reviews refl (review.Requeued p) counts t h.1)
review_shape w c (review.Dropped p) counts o v lt t h = works c h.0 lt (reviews refl (review.Dropped p) counts t h.1)
review_shape w c review.Idle counts o v lt t h = idles w (EventOf.Review c) o v (λ d x. cc) (λ d r x. cc) h

fold_shape : (w : World) (p : ℕ) (o : Outcome) (v : World) → FoldsAt w p o v → Shape w (EventOf.Fold p) o v
fold_shape w p o v (inl h) = idles w (EventOf.Fold p) o v (λ d x. cc) (λ d r x. cc) h
fold_shape w p o v (inr h) = joins p h.1.0 refl h.1.3.0 h.0 h.1.1 h.1.2 h.1.3.1

-- a call that may be given up, or may not
can_give_up_shape : (w : World) (c : ℕ) (phase : Phase) (o : Outcome) (v : World) → c < w.made.cores → w.calls.phase c ≡ phase
    → IsUnawaited w.hardware c phase → cond (can_give_up phase) (Becomes (after_give_up c phase w) o v) (Idles w o v)
    → Shape w (EventOf.GiveUp c) o v
can_give_up_shape w c phase o v lt e u h = go (can_give_up phase) refl h
  where
    go : (b : Bool) → can_give_up phase ≡ b → cond b (Becomes (after_give_up c phase w) o v) (Idles w o v) → Shape w (EventOf.GiveUp c) o v
    go true i k = gives_up c refl k.0 lt (ap can_give_up e ∙ i) (subst (IsUnawaited w.hardware c) (sym e) u)
        (k.1 ∙ ap (λ q. after_give_up c q w) (sym e))
    go false i k = idles w (EventOf.GiveUp c) o v (λ d x. cc) (λ d r x. cc) k

give_up_shape : (w : World) (c : ℕ) (phase : Phase) (o : Outcome) (v : World) → c < w.made.cores → w.calls.phase c ≡ phase
    → GivesUp w c phase o v → Shape w (EventOf.GiveUp c) o v
give_up_shape w c (CopyAcks touch f) o v lt e (inl h) = can_give_up_shape w c (CopyAcks touch f) o v lt e h.0 h.1
give_up_shape w c (CopyAcks touch f) o v lt e (inr h) = idles w (EventOf.GiveUp c) o v (λ d x. cc) (λ d r x. cc) h.1
give_up_shape w c phase o v lt e h = can_give_up_shape w c phase o v lt e tt h

-- ---- every event

act_shape : (w : World) (e : Event) (o : Outcome) (v : World) → is_here w.made (core_of e) ≡ true → Acts w e o v → Shape w e o v
act_shape w (Call c request) o v here h = call_shape w c request (w.calls.phase c) o v (below c w.made.cores here) refl h
act_shape w (Go c) o v here h = go_shape w c (w.calls.phase c) o v (below c w.made.cores here) refl h
act_shape w (EventOf.Frame c f) o v here h = frame_shape w c f (w.calls.phase c) o v (below c w.made.cores here) refl h
act_shape w (EventOf.Guess c p) o v here h = run_shape w c p (w.calls.phase c) o v (below c w.made.cores here) refl h
act_shape w (EventOf.Whole c) o v here h = window_shape w c (w.calls.phase c) o v (below c w.made.cores here) refl h
act_shape w (EventOf.Take c) o v here h = take_shape w c (asked (w.hardware.inbox c)) o v (below c w.made.cores here) refl h
act_shape w (EventOf.Walk c p) o v here h = walk_shape w c p o v (below c w.made.cores here) h
act_shape w (EventOf.Evict c p) o v here h = evict_shape w c p o v (below c w.made.cores here) h
act_shape w (EventOf.Flush c) o v here h = flush_shape w c h.0 h.1.0 o v (below c w.made.cores here) h.1.1 h.1.2
act_shape w (EventOf.Review c) o v here h = review_shape w c h.0 h.1.0 o v (below c w.made.cores here) h.1.1 h.1.2
act_shape w (EventOf.Fold p) o v here h = fold_shape w p o v h
act_shape w (EventOf.GiveUp c) o v here h = give_up_shape w c (w.calls.phase c) o v (below c w.made.cores here) refl h

pub comes : (w : World) (e : Event) (o : Outcome) (v : World) → Step w e o v → Comes w e o v
comes w e o v s = go (nat_lt w.calls.events event_limit) refl s
  where
    known : (b : Bool) → is_here w.made (core_of e) ≡ b → cond b (Acts (with_event w) e o v) (Idles (with_event w) o v) → Shape (with_event w) e o v
    known true i k = act_shape (with_event w) e o v i k
    known false i k = rests (absent i k.0) k.1

    go : (b : Bool) → nat_lt w.calls.events event_limit ≡ b
        → cond b (cond (is_here w.made (core_of e)) (Acts (with_event w) e o v) (Idles (with_event w) o v)) ((o ≡ Full) × (v ≡ w))
        → Comes w e o v
    go true i k = acts i (known (is_here w.made (core_of e)) refl k)
    go false i k = stopped i (rw (k.0) (inner_full e)) k.1
