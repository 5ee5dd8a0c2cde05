-- Why a step was idle or full, and what such a step leaves
use Rattle.machine_model.proofs.Words.{◌≡◌, ◌≢◌, ℕ, ◌≤◌, inl, inr, Bool, true, false, cond, refl, sym, ap, ◌∙◌, arith, Some, None, Option, List, [], ◌∷◌}
use Rattle.machine_model.proofs.Words.{length, nat_lt, ◌&&◌, is_some, if◌then◌else◌, nat_tests, Request, Translation, tlb_at, Counts, Flushing, Reviewing}
use Rattle.machine_model.proofs.Words.{Takes, Message, Took, asked, Event, Call, Go, Whole, Flush, GiveUp, Outcome, Stepped, Idle, Full, Wait, Answered, Phase}
use Rattle.machine_model.proofs.Words.{Free, Want, CopyAcks}
use Rattle.machine_model.proofs.Words.{TakesThisFrame, after_frame, Idles, Becomes, Awaits, ReportsFlush, ReportsReview, core_of, GivesUp}
use Rattle.machine_model.proofs.Words.{after_give_up, can_give_up, GuessesThisRun, TakesWindow, pages_from, Acts, Begins, Step, after_call, event_limit}
use Rattle.machine_model.proofs.Words.{is_here, with_event, TakesMessage, can_walk, after_walk, after_eviction, with_hardware, World}
use Rattle.refcache.specs.declared.reports.Flush.{Flush as FlushReport}
use Rattle.refcache.specs.declared.reports.Flush.TheVariants as flush
use Rattle.refcache.specs.declared.reports.Review.{Review as ReviewReport}
use Rattle.refcache.specs.declared.reports.Review.TheVariants as review
use Rattle.mmu.specs.declared.message.Took.TheVariants as took
use Rattle.machine_model.specs.declared.event.Event.TheVariants.{Frame, Guess, Take, Walk, Evict, Review, Fold}
use Rattle.machine_model.specs.declared.phase.Phase.TheVariants.{Guess as Guessing}
use Rattle.machine_model.specs.GivingUp.{GivesUpCopy}
use Rattle.vm_base.specs.Runs.{lies_in}
use Rattle.machine_model.specs.Placing.{after_guess}
use Rattle.slot_lock.specs.declared.plan.Target.TheVariants.{Run}
use Rattle.machine_model.proofs.Shapes.{Rests, absent, busy, full, free, cannot, waits, awaits, Shape, rests, begins, ends, goes, aims, gives_up, works, joins}
use Rattle.machine_model.proofs.Shapes.{Comes, stopped, acts, comes}
use Rattle.machine_model.specs.Possible.{CannotGiveUp, IsFull, IsIdle, IsImpossible, IsPastCalls, OnFull, OnIdle, can_guess, looks_for_place, wants_frame}
use Rattle.machine_model.specs.Sound.{Stays, counted}

-- ---- idle events

-- an idle event rests
resting : (w : World) (e : Event) (v : World) → Shape w e Idle v → Rests w e Idle
resting w e v (rests r h) = r
resting w e v (begins c request i o lt p l h) = absurd cc
resting w e v (ends c reply i o lt p h) = absurd cc
resting w e v (goes c g o lt h) = absurd cc
resting w e v (aims c place target a o lt p h) = absurd cc
resting w e v (gives_up c i o lt g u h) = absurd cc
resting w e v (works c o lt h) = absurd cc
resting w e v (joins p t i o page j m h) = absurd cc

call_idle : (w : World) (c : ℕ) (request : Request) → is_here w.made (Some c) ≡ true → Rests w (Call c request) Idle → w.calls.phase c ≢ Free
call_idle w c request here (absent h i) = absurd cc
call_idle w c request here (busy d r e n i) = λ f. n cc
call_idle w c request here (full d r e n i) = absurd cc
call_idle w c request here (free d e p i) = absurd cc
call_idle w c request here (cannot g k i) = absurd (k c request refl)
call_idle w c request here (waits d goal cursor by e p n own i) = absurd cc
call_idle w c request here (awaits d range set e p a i) = absurd cc

go_idle : (w : World) (c : ℕ) → is_here w.made (Some c) ≡ true → Rests w (Go c) Idle → w.calls.phase c ≡ Free
go_idle w c here (absent h i) = absurd cc
go_idle w c here (busy d r e n i) = absurd cc
go_idle w c here (full d r e n i) = absurd cc
go_idle w c here (free d e p i) = cc
go_idle w c here (cannot g k i) = absurd (g c refl)
go_idle w c here (waits d goal cursor by e p n own i) = absurd cc
go_idle w c here (awaits d range set e p a i) = absurd cc

-- what was made by this test was not idle
untrue : (b : Bool) (new w v : World) → cond b (Becomes new Idle v) (Idles w Idle v) → b ≡ false
untrue true new w v h = absurd (let i = h.0 in cc)
untrue false new w v h = refl

frame_idle : (w : World) (c f : ℕ) (phase : Phase) (v : World) → TakesThisFrame w c phase f Idle v → (wants_frame phase && w.memory.is_free f) ≡ false
frame_idle w c f (Want touch old) v h = untrue (w.memory.is_free f) (after_frame c touch old f w) w v h
frame_idle w c f _ v h = refl

guess_idle : (w : World) (c first : ℕ) (phase : Phase) (v : World) → GuessesThisRun w c phase first Idle v → can_guess phase first ≡ false
guess_idle w c first (Guessing place) v h = untrue (lies_in place.window place.count first) (after_guess c place (Run (pages_from first place.count)) w) w v h
guess_idle w c first _ v h = refl

window_idle : (w : World) (c : ℕ) (phase : Phase) (v : World) → TakesWindow w c phase Idle v → looks_for_place phase ≡ false
window_idle w c (Guessing place) v h = absurd (let i = h.0 in cc)
window_idle w c _ v h = refl

-- an inbox with a message asks for something
take_idle : (w : World) (c : ℕ) (t : Took) (v : World) → TakesMessage w c t Idle v → t ≡ took.Idle
take_idle w c took.Idle v h = refl
take_idle w c _ v h = absurd (let i = h.0 in cc)

asks : (ms : List Message) → asked ms ≡ took.Idle → ms ≡ []
asks [] h = refl
asks (m ∷ ms) h = absurd (go m.is_cleared h)
  where
    go : (b : Bool) → (if b then took.Invalidate m.range else took.Clear m.range) ≡ took.Idle → ⊥
    go true k = cc
    go false k = cc

absent_entry : (entry : Option Translation) → is_some entry ≡ false → entry ≡ None
absent_entry None h = refl
absent_entry (Some e) h = absurd cc

flush_idle : (w : World) (c : ℕ) (report : FlushReport) (counts : Counts) (v : World) → Takes w.memory.counts (Flushing c report) counts
    → ReportsFlush w report counts Idle v → Takes w.memory.counts (Flushing c flush.Idle) w.memory.counts
flush_idle w c flush.Idle counts v t h = (t.0, (t.1.0, t.1.1, refl))
flush_idle w c _ counts v t h = absurd (let i = h.0 in cc)

review_idle : (w : World) (c : ℕ) (report : ReviewReport) (counts : Counts) (v : World) → Takes w.memory.counts (Reviewing c report) counts
    → ReportsReview w report counts Idle v → Takes w.memory.counts (Reviewing c review.Idle) w.memory.counts
review_idle w c review.Idle counts v t h = (t.0, (t.1.0, refl))
review_idle w c _ counts v t h = absurd (let i = h.0 in cc)

-- a copy for which other cores are awaited
copy_idle : (w : World) (c : ℕ) (phase : Phase) (v : World) → GivesUpCopy w c phase Idle v → (set : ℕ) × Awaits w.hardware c set
copy_idle w c phase v (inl h) = absurd (let i = h.1.0 in cc)
copy_idle w c phase v (inr h) = h.0

give_up_idle : (w : World) (c : ℕ) (phase : Phase) (v : World) → GivesUp w c phase Idle v → CannotGiveUp w.hardware c phase
give_up_idle w c Free v h = untrue (can_give_up Free) (after_give_up c Free w) w v h
give_up_idle w c (CopyAcks touch g) v h = copy_idle w c (CopyAcks touch g) v h
give_up_idle w c phase v h = untrue (can_give_up phase) (after_give_up c phase w) w v h

-- each event, where the machine has its core
act_idle : (w : World) (e : Event) (v : World) → is_here w.made (core_of e) ≡ true → Shape (with_event w) e Idle v → Acts (with_event w) e Idle v
    → IsImpossible w e
act_idle w (Call c request) v here s h = call_idle (with_event w) c request here (resting (with_event w) (Call c request) v s)
act_idle w (Go c) v here s h = go_idle (with_event w) c here (resting (with_event w) (Go c) v s)
act_idle w (Frame c f) v here s h = frame_idle (with_event w) c f (w.calls.phase c) v h
act_idle w (Guess c first) v here s h = guess_idle (with_event w) c first (w.calls.phase c) v h
act_idle w (Whole c) v here s h = window_idle (with_event w) c (w.calls.phase c) v h
act_idle w (Take c) v here s h = asks (w.hardware.inbox c) (take_idle (with_event w) c (asked (w.hardware.inbox c)) v h)
act_idle w (Walk c p) v here s h = untrue (can_walk w.hardware c p) (with_hardware (after_walk w.hardware c p) (with_event w)) (with_event w) v h
act_idle w (Evict c p) v here s h =
    absent_entry (tlb_at (w.hardware.tlb c) p)
    (untrue (is_some (tlb_at (w.hardware.tlb c) p)) (with_hardware (after_eviction w.hardware c p) (with_event w)) (with_event w) v h)
act_idle w (Flush c) v here s h = flush_idle (with_event w) c h.0 h.1.0 v h.1.1 h.1.2
act_idle w (Review c) v here s h = review_idle (with_event w) c h.0 h.1.0 v h.1.1 h.1.2
act_idle w (Fold p) v here s h = tt
act_idle w (GiveUp c) v here s h = give_up_idle (with_event w) c (w.calls.phase c) v h

-- below the limit of events a step has a shape
shape_of : (w : World) (e : Event) (o : Outcome) (v : World) → nat_lt w.calls.events event_limit ≡ true → Step w e o v → Shape (with_event w) e o v
shape_of w e o v below s = go (comes w e o v s)
  where
    go : Comes w e o v → Shape (with_event w) e o v
    go (stopped n i h) = absurd cc
    go (acts n h) = h

idle_why : (w : World) (e : Event) (v : World) → Step w e Idle v → IsIdle w e
idle_why w e v s = go (nat_lt w.calls.events event_limit) refl s
  where
    known : (b : Bool) → is_here w.made (core_of e) ≡ b → nat_lt w.calls.events event_limit ≡ true
        → cond b (Acts (with_event w) e Idle v) (Idles (with_event w) Idle v) → IsIdle w e
    known true i below k = inr (act_idle w e v i (shape_of w e Idle v below s) k)
    known false i below k = inl i

    go : (b : Bool) → nat_lt w.calls.events event_limit ≡ b
        → cond b (cond (is_here w.made (core_of e)) (Acts (with_event w) e Idle v) (Idles (with_event w) Idle v)) ((Idle ≡ Full) × (v ≡ w))
        → IsIdle w e
    go true i k = known (is_here w.made (core_of e)) refl i k
    go false i k = absurd (let f = k.0 in cc)

-- ---- limits

-- only a call is past a limit of its own
past_calls : (w : World) (e : Event) (v : World) → Shape w e Full v → (c : ℕ) × (request : Request) × (e ≡ Call c request)
past_calls w e v (rests (absent h i) k) = absurd cc
past_calls w e v (rests (busy d r i n j) k) = absurd cc
past_calls w e v (rests (full d r i n j) k) = (d, r, i)
past_calls w e v (rests (free d i p j) k) = absurd cc
past_calls w e v (rests (cannot g n i) k) = absurd cc
past_calls w e v (rests (waits d goal cursor by i p n own j) k) = absurd cc
past_calls w e v (rests (awaits d range set i p a j) k) = absurd cc
past_calls w e v (begins c request i o lt p l h) = absurd cc
past_calls w e v (ends c reply i o lt p h) = absurd cc
past_calls w e v (goes c g o lt h) = absurd cc
past_calls w e v (aims c place target a o lt p h) = absurd cc
past_calls w e v (gives_up c i o lt g u h) = absurd cc
past_calls w e v (works c o lt h) = absurd cc
past_calls w e v (joins p t i o page j m h) = absurd cc

over : (a b : ℕ) → nat_lt a b ≡ false → b ≤ a
over a b h = grind (arith, nat_tests)

call_full : (w : World) (c : ℕ) (request : Request) (phase : Phase) (v : World) → Begins w c request phase Full v
    → (phase ≡ Free) × (w.made.calls ≤ length w.calls.requests)
call_full w c request Free v h = (refl, go (nat_lt (length w.calls.requests) w.made.calls) refl h)
  where
    go : (b : Bool) → nat_lt (length w.calls.requests) w.made.calls ≡ b → cond b (Becomes (after_call c request w) Full v) ((Full ≡ Full) × (v ≡ w))
        → w.made.calls ≤ length w.calls.requests
    go true i k = absurd (let f = k.0 in cc)
    go false i k = over (length w.calls.requests) w.made.calls i
call_full w c request _ v h = absurd (let i = h.0 in cc)

act_full : (w : World) (e : Event) (v : World) → (c : ℕ) × (request : Request) × (e ≡ Call c request) → Acts (with_event w) e Full v → IsPastCalls w e
act_full w (Call c request) v called h = call_full (with_event w) c request (w.calls.phase c) v h
act_full w _ v called h = absurd (let i = called.2 in cc)

full_why : (w : World) (e : Event) (v : World) → Step w e Full v → IsFull w e
full_why w e v s = go (nat_lt w.calls.events event_limit) refl s
  where
    known : (b : Bool) → is_here w.made (core_of e) ≡ b → nat_lt w.calls.events event_limit ≡ true
        → cond b (Acts (with_event w) e Full v) (Idles (with_event w) Full v) → IsFull w e
    known true i below k = inr (act_full w e v (past_calls (with_event w) e v (shape_of w e Full v below s)) k)
    known false i below k = absurd (let f = k.0 in cc)

    go : (b : Bool) → nat_lt w.calls.events event_limit ≡ b
        → cond b (cond (is_here w.made (core_of e)) (Acts (with_event w) e Full v) (Idles (with_event w) Full v)) ((Full ≡ Full) × (v ≡ w))
        → IsFull w e
    go true i k = known (is_here w.made (core_of e)) refl i k
    go false i k = inl (over w.calls.events event_limit i)

-- ---- what they leave

abbrev rests_in : Outcome → Bool
rests_in Stepped = false
rests_in (Answered reply) = false
rests_in _ = true

still : (w : World) (e : Event) (o : Outcome) (v : World) → rests_in o ≡ true → Shape w e o v → v ≡ w
still w e o v i (rests r h) = h
still w e o v i (begins c request j k lt p l h) = absurd (let f = sym i ∙ ap rests_in k in cc)
still w e o v i (ends c reply j k lt p h) = absurd (let f = sym i ∙ ap rests_in k in cc)
still w e o v i (goes c g k lt h) = absurd (let f = sym i ∙ ap rests_in k in cc)
still w e o v i (aims c place target a k lt p h) = absurd (let f = sym i ∙ ap rests_in k in cc)
still w e o v i (gives_up c j k lt g u h) = absurd (let f = sym i ∙ ap rests_in k in cc)
still w e o v i (works c k lt h) = absurd (let f = sym i ∙ ap rests_in k in cc)
still w e o v i (joins p t j k page n m h) = absurd (let f = sym i ∙ ap rests_in k in cc)

left : (w : World) (e : Event) (o : Outcome) (v : World) → rests_in o ≡ true → Step w e o v → v ≡ counted w
left w e o v i s = go (comes w e o v s)
  where
    go : Comes w e o v → v ≡ counted w
    go (stopped n k h) = rw n h
    go (acts n h) = rw n (still (with_event w) e o v i h)

-- ---- a step

pub idle_step : (w : World) (e : Event) (o : Outcome) (v : World) → Step w e o v → OnIdle o (IsIdle w e)
idle_step w e Idle v s = idle_why w e v s
idle_step w e _ v s = tt

pub full_step : (w : World) (e : Event) (o : Outcome) (v : World) → Step w e o v → OnFull o (IsFull w e)
full_step w e Full v s = full_why w e v s
full_step w e _ v s = tt

pub stays_step : (w : World) (e : Event) (o : Outcome) (v : World) → Step w e o v → Stays w o v
stays_step w e (Wait blocker) v s = left w e (Wait blocker) v refl s
stays_step w e Idle v s = left w e Idle v refl s
stays_step w e Full v s = left w e Full v refl s
stays_step w e _ v s = tt
