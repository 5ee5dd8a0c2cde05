-- What a step does to TLBs and inboxes is its event's deed.
use Rattle.machine_model.proofs.Words.{◌≡◌, ℕ, ◌<◌, ◌==◌, Bool, true, false, cond, refl, sym, ap, subst, ◌∙◌, arith, nat_lt, nat_tests, List}
use Rattle.machine_model.proofs.Words.{◌++◌, ◌∷◌, []}
use Rattle.machine_model.proofs.Words.{put, eq_true, has, members, Option, Reply, Took, Place, Target, PageRange}
use Rattle.machine_model.proofs.Words.{TlbEntry, Message, World, posted, remaining, asked, Touch}
use Rattle.machine_model.proofs.Words.{tlb_without, with_event, event_limit, Step, Acts, is_here, core_of, Idles, page_of_touch}
use Rattle.machine_model.proofs.Words.{inboxes_after}
use Rattle.machine_model.specs.declared.event.Event.{Event}
use Rattle.machine_model.specs.declared.event.Outcome.{Outcome}
use Rattle.machine_model.specs.declared.event.Outcome.TheVariants.{Full, Stepped}
use Rattle.machine_model.specs.declared.phase.Phase.{Phase}
use Rattle.vm_base.specs.Info.{recorded_cores}
use Rattle.mmu.specs.declared.message.Took.TheVariants as took
use Rattle.slot_lock.specs.Plan.{range_of}
use Rattle.mmu.specs.Tlb.{is_at}
use Rattle.machine_model.specs.declared.event.Outcome.TheVariants.{Idle, Wait, Answered}
use Rattle.machine_model.proofs.Shapes.{Rests, absent, busy, full, free, cannot, waits, awaits, Moves, locks, tries, hints, seeks, guesses}
use Rattle.machine_model.proofs.Shapes.{turns, chooses}
use Rattle.machine_model.proofs.Shapes.{acts as decides, finds, lacks, shows, Replies, refuses, no_place, declines, fails, no_frame, LetsGo}
use Rattle.machine_model.proofs.Shapes.{unlocks, returns, releases}
use Rattle.machine_model.proofs.Shapes.{GoesBy, moves, divides, cuts, fits, owns, lets_go, answers, posts, commits, takes, zeroes}
use Rattle.machine_model.proofs.Shapes.{first_copies, caches, shares}
use Rattle.machine_model.proofs.Shapes.{posts_copy, copies, installs, accesses, faults, Works, clears, invalidates, walks, evicts, flushes}
use Rattle.machine_model.proofs.Shapes.{reviews, frees}
use Rattle.machine_model.proofs.Shapes.{IsGoing, going, picking, IsAiming, at_run, at_window, Shape, rests, begins, ends, goes, aims}
use Rattle.machine_model.proofs.Shapes.{gives_up, works, joins}
use Rattle.machine_model.proofs.Shapes.{Comes, stopped, acts as happens, comes}
use Rattle.state_seen.specs.declared.deed.HardwareStep.{HardwareStep}
use Rattle.state_seen.specs.declared.deed.HardwareStep.TheVariants.{Nothing, Translate, Shoot, Take, Walk, Evict}
use Rattle.state_seen.specs.Deeds.{deed_at, deed_of, if_here}
use Rattle.state_seen.specs.Held.{Holds, done, invalidated, own_part, taken, told}
use Rattle.state_seen.specs.Shown.{after_step, holds_of}

-- ---- functions changed at a place

abbrev pair : (ℕ → List TlbEntry) → (ℕ → List Message) → ℕ → Holds
pair h i k = record { tlb = h k; inbox = i k }

split : (h : ℕ → List TlbEntry) (i : ℕ → List Message) (c : ℕ) (x : List TlbEntry) (y : List Message) (d : ℕ)
    → put (λ k. pair h i k) c (record { tlb = x; inbox = y }) d ≡ record { tlb = put h c x d; inbox = put i c y d }
split h i c x y d = go (d == c)
  where
    go : (b : Bool) → ◌≡◌ {A = Holds} (cond b (record { tlb = x; inbox = y }) (record { tlb = h d; inbox = i d }))
        (record { tlb = cond b x (h d); inbox = cond b y (i d) })
    go true = refl
    go false = refl

back : {V : Type 0} (f : ℕ → V) (c d : ℕ) → put f c (f c) d ≡ f d
back f c d = go (d == c) refl
  where
    go : (b : Bool) → (d == c) ≡ b → cond b (f c) (f d) ≡ f d
    go true e = ap f (sym (eq_true d c e))
    go false e = refl

tlb_only : (h : ℕ → List TlbEntry) (i : ℕ → List Message) (c : ℕ) (x : List TlbEntry) (d : ℕ)
    → put (pair h i) c (record { tlb = x; inbox = i c }) d ≡ record { tlb = put h c x d; inbox = i d }
tlb_only h i c x d = split h i c x (i c) d ∙ ap (λ m. record { tlb = put h c x d; inbox = m }) (back i c d)

inbox_only : (h : ℕ → List TlbEntry) (i : ℕ → List Message) (c : ℕ) (y : List Message) (d : ℕ)
    → put (pair h i) c (record { tlb = h c; inbox = y }) d ≡ record { tlb = h d; inbox = put i c y d }
inbox_only h i c y d = split h i c (h c) y d ∙ ap (λ l. record { tlb = l; inbox = put i c y d }) (back h c d)

-- ---- a step that does nothing to them

nothing_done : (o : Outcome) (h : ℕ → Holds) → after_step o Nothing h ≡ h
nothing_done Stepped h = refl
nothing_done (Wait blocker) h = refl
nothing_done Idle h = refl
nothing_done (Answered reply) h = refl
nothing_done Full h = refl

rests_still : (w : World) (e : Event) (o : Outcome) (deed : HardwareStep) (h : ℕ → Holds) → Rests w e o → after_step o deed h ≡ h
rests_still w e o deed h (absent g i) = ap (λ x. after_step x deed h) i
rests_still w e o deed h (busy c request g n i) = ap (λ x. after_step x deed h) i
rests_still w e o deed h (full c request g n i) = ap (λ x. after_step x deed h) i
rests_still w e o deed h (free c g n i) = ap (λ x. after_step x deed h) i
rests_still w e o deed h (cannot g k i) = ap (λ x. after_step x deed h) i
rests_still w e o deed h (waits c goal cursor by g p ne own i) = ap (λ x. after_step x deed h) i
rests_still w e o deed h (awaits c range set g p a i) = ap (λ x. after_step x deed h) i

abbrev Kept : World → Event → Outcome → World → Type 0
Kept w e o v = (d : ℕ) → holds_of v d ≡ after_step o (deed_of w e) (holds_of w) d

-- where the deed is nothing, and tables and inboxes are the same
nothing : (w : World) (e : Event) (o : Outcome) (v : World) → deed_of w e ≡ Nothing → ((d : ℕ) → holds_of v d ≡ holds_of w d) → Kept w e o v
nothing w e o v n same d =
    same d ∙ sym (ap (λ x. after_step o x (holds_of w) d) n ∙ ap (λ f. f d) (nothing_done o (holds_of w)))

-- a deed that is made
made : (w : World) (e : Event) (o : Outcome) (v : World) (deed : HardwareStep) → o ≡ Stepped → deed_of w e ≡ deed
    → ((d : ℕ) → holds_of v d ≡ done deed (holds_of w) d) → Kept w e o v
made w e o v deed s n same d =
    same d ∙ sym (ap (λ x. after_step x (deed_of w e) (holds_of w) d) s ∙ ap (λ x. done x (holds_of w) d) n)

here : (w : World) (c : ℕ) (deed : HardwareStep) → c < w.made.cores → if_here w c deed ≡ deed
here w c deed lt = let is : nat_lt c w.made.cores ≡ true = grind (arith, nat_tests) in ap (λ b. cond b deed Nothing) is

-- the event of a call that goes on
at_phase : (w : World) (c : ℕ) (e : Event) → IsGoing c e → c < w.made.cores → deed_of w e ≡ deed_at w c (w.calls.phase c)
at_phase w c e going lt = here w c (deed_at w c (w.calls.phase c)) lt
at_phase w c e (picking f) lt = here w c (deed_at w c (w.calls.phase c)) lt

moves_nothing : (w : World) (c : ℕ) (new : Phase) → Moves w c new → deed_at w c (w.calls.phase c) ≡ Nothing
moves_nothing w c new (locks request change e n k) = ap (deed_at w c) e
moves_nothing w c new (tries request touch e n k) = ap (deed_at w c) e
moves_nothing w c new (hints request place range e n i k) = ap (deed_at w c) e
moves_nothing w c new (seeks request place e n k) = ap (deed_at w c) e
moves_nothing w c new (guesses place found e n i) = ap (deed_at w c) e
moves_nothing w c new (turns place target e n d) = ap (deed_at w c) e
moves_nothing w c new (chooses place target range shoot e n d) = ap (deed_at w c) e
moves_nothing w c new (decides change range shoot e n d) = ap (deed_at w c) e
moves_nothing w c new (finds touch f e n u) = ap (deed_at w c) e
moves_nothing w c new (lacks touch old e n u d) = ap (deed_at w c) e
moves_nothing w c new (shows touch e n u d) = ap (deed_at w c) e

replies_nothing : (w : World) (c : ℕ) (held : Option PageRange) (reply : Reply) → Replies w c held reply → deed_at w c (w.calls.phase c) ≡ Nothing
replies_nothing w c held reply (refuses request e h k) = ap (deed_at w c) e
replies_nothing w c held reply (no_place place target errno e h r d) = ap (deed_at w c) e
replies_nothing w c held reply (declines change errno e h r d) = ap (deed_at w c) e
replies_nothing w c held reply (fails touch e h f) = ap (deed_at w c) e
replies_nothing w c held reply (no_frame touch old e h r f) = ap (deed_at w c) e

lets_go_nothing : (w : World) (c : ℕ) (old : Phase) (held : PageRange) (b : ℕ) (new : Phase) → LetsGo old held b new → deed_at w c old ≡ Nothing
lets_go_nothing w c old held b new (unlocks reply e n) = ap (deed_at w c) e
lets_go_nothing w c old held b new (returns place target e n) = ap (deed_at w c) e
lets_go_nothing w c old held b new (releases touch e h n) = ap (deed_at w c) e

-- ---- a shootdown

shot : (h : ℕ → List TlbEntry) (i : ℕ → List Message) (c set : ℕ) (range : PageRange) (d : ℕ)
    → ◌≡◌ {A = Holds} (record { tlb = put h c (tlb_without (has range) (h c)) d; inbox = inboxes_after c set range i d })
    (done (Shoot c set range) (pair h i) d)
shot h i c set range d = go (put (members set) c false d)
  where
    own : put (pair h i) c (own_part (Shoot c set range) (pair h i c)) d ≡ record { tlb = put h c (tlb_without (has range) (h c)) d; inbox = i d }
    own = tlb_only h i c (tlb_without (has range) (h c)) d

    go : (b : Bool) → ◌≡◌ {A = Holds} (record { tlb = put h c (tlb_without (has range) (h c)) d; inbox = cond b (i d ++ posted c range ∷ []) (i d) })
        (cond b (told c range (put (pair h i) c (own_part (Shoot c set range) (pair h i c)) d))
        (put (pair h i) c (own_part (Shoot c set range) (pair h i c)) d))
    go true = ap (told c range) (sym own)
    go false = sym own

-- ---- every shape

goes_kept : (w : World) (c : ℕ) (e : Event) (o : Outcome) (v : World) → IsGoing c e → c < w.made.cores → o ≡ Stepped → GoesBy w c v → Kept w e o v
goes_kept w c e o v g lt s b = by b
  where
    at : deed_of w e ≡ deed_at w c (w.calls.phase c)
    at = at_phase w c e g lt

    none : (x : World) → deed_at w c (w.calls.phase c) ≡ Nothing → v ≡ x → ((d : ℕ) → holds_of x d ≡ holds_of w d) → Kept w e o v
    none x n h same = nothing w e o v (at ∙ n) (λ d. ap (λ y. holds_of y d) h ∙ same d)

    by : GoesBy w c v → Kept w e o v
    by (moves new m h) = none _ (moves_nothing w c new m) h (λ d. refl)
    by (divides goal cursor t q p h) = none _ (ap (deed_at w c) q) h (λ d. refl)
    by (cuts place target range t q p h) = none _ (ap (deed_at w c) q) h (λ d. refl)
    by (fits place target range q cut h) = none _ (ap (deed_at w c) q) h (λ d. refl)
    by (owns goal cursor b t q l h) = none _ (ap (deed_at w c) q) h (λ d. refl)
    by (lets_go held b t new l u h) = none _ (lets_go_nothing w c (w.calls.phase c) held b new l) h (λ d. refl)
    by (answers held reply r h) = none _ (replies_nothing w c held reply r) h (λ d. refl)
    by (posts change shoot q h) = made w e o v (Shoot c shoot (range_of change)) s (at ∙ ap (deed_at w c) q)
        (λ d. ap (λ y. holds_of y d) h ∙ shot w.hardware.tlb w.hardware.inbox c shoot (range_of change) d)
    by (commits goal change counts q nobody l h) = none _ (ap (deed_at w c) q) h (λ d. refl)
    by (takes touch old f q l h) = none _ (ap (deed_at w c) q) h (λ d. refl)
    by (zeroes touch f counts q b t h) = none _ (ap (deed_at w c) q) h (λ d. refl)
    by (first_copies touch f counts q b t h) = none _ (ap (deed_at w c) q) h (λ d. refl)
    by (caches touch f counts q p none_cached t h) = none _ (ap (deed_at w c) q) h (λ d. refl)
    by (shares touch own x counts q p i t h) = none _ (ap (deed_at w c) q) h (λ d. refl)
    by (posts_copy touch f q h) =
        made w e o v (Shoot c (recorded_cores (w.slots.info touch.page)) (page_of_touch touch)) s (at ∙ ap (deed_at w c) q)
        (λ d. ap (λ y. holds_of y d) h
        ∙ shot w.hardware.tlb w.hardware.inbox c (recorded_cores (w.slots.info touch.page)) (page_of_touch touch) d)
    by (copies touch f x counts q nobody i t h) = none _ (ap (deed_at w c) q) h (λ d. refl)
    by (installs touch q h) = none _ (ap (deed_at w c) q) h (λ d. refl)
    by (accesses touch f q i h) = made w e o v (Translate c touch (w.hardware.table c touch.page)) s (at ∙ ap (deed_at w c) q)
        (λ d. ap (λ y. holds_of y d) h ∙ sym (tlb_only w.hardware.tlb w.hardware.inbox c _ d))
    by (faults touch q i h) = made w e o v (Translate c touch (w.hardware.table c touch.page)) s (at ∙ ap (deed_at w c) q)
        (λ d. ap (λ y. holds_of y d) h ∙ sym (tlb_only w.hardware.tlb w.hardware.inbox c _ d))

took_of : (w : World) (c : ℕ) (x : Took) → asked (w.hardware.inbox c) ≡ x
    → taken (holds_of w c) ≡ record { tlb = invalidated x (w.hardware.tlb c); inbox = remaining (w.hardware.inbox c) }
took_of w c x e = ap (λ y. record { tlb = invalidated y (w.hardware.tlb c); inbox = remaining (w.hardware.inbox c) }) e

works_kept : (w : World) (c : ℕ) (e : Event) (o : Outcome) (v : World) → c < w.made.cores → o ≡ Stepped → Works w c e v → Kept w e o v
works_kept w c e o v lt s (clears i range a h) = made w e o v (Take c) s (ap (deed_of w) i ∙ here w c (Take c) lt)
    (λ d. ap (λ y. holds_of y d) h ∙ sym (ap (λ x. put (holds_of w) c x d) (took_of w c (took.Clear range) a)
    ∙ inbox_only w.hardware.tlb w.hardware.inbox c (remaining (w.hardware.inbox c)) d))
works_kept w c e o v lt s (invalidates i range a h) = made w e o v (Take c) s (ap (deed_of w) i ∙ here w c (Take c) lt)
    (λ d. ap (λ y. holds_of y d) h ∙ sym (ap (λ x. put (holds_of w) c x d) (took_of w c (took.Invalidate range) a)
    ∙ split w.hardware.tlb w.hardware.inbox c (tlb_without (has range) (w.hardware.tlb c)) (remaining (w.hardware.inbox c)) d))
works_kept w c e o v lt s (walks p i a h) =
    made w e o v (Walk c p (w.hardware.table c p)) s (ap (deed_of w) i ∙ here w c (Walk c p (w.hardware.table c p)) lt)
    (λ d. ap (λ y. holds_of y d) h ∙ sym (tlb_only w.hardware.tlb w.hardware.inbox c _ d))
works_kept w c e o v lt s (evicts p i a h) = made w e o v (Evict c p) s (ap (deed_of w) i ∙ here w c (Evict c p) lt)
    (λ d. ap (λ y. holds_of y d) h ∙ sym (tlb_only w.hardware.tlb w.hardware.inbox c _ d))
works_kept w c e o v lt s (flushes i report counts t h) = nothing w e o v (ap (deed_of w) i) (λ d. ap (λ y. holds_of y d) h)
works_kept w c e o v lt s (reviews i report counts t h) = nothing w e o v (ap (deed_of w) i) (λ d. ap (λ y. holds_of y d) h)
works_kept w c e o v lt s (frees i f counts t h) = nothing w e o v (ap (deed_of w) i) (λ d. ap (λ y. holds_of y d) h)

aims_nothing : (w : World) (c : ℕ) (place : Place) (e : Event) (target : Target) → IsAiming c place e target → deed_of w e ≡ Nothing
aims_nothing w c place e target (at_run p run) = refl
aims_nothing w c place e target at_window = refl

shape_kept : (w : World) (e : Event) (o : Outcome) (v : World) → Shape w e o v → Kept w e o v
shape_kept w e o v (rests i h) = λ d. ap (λ x. holds_of x d) h ∙ sym (ap (λ f. f d) (rests_still w e o (deed_of w e) (holds_of w) i))
shape_kept w e o v (begins c request i s lt p below h) = nothing w e o v (ap (deed_of w) i) (λ d. ap (λ y. holds_of y d) h)
shape_kept w e o v (ends c reply i s lt p h) =
    λ d. ap (λ y. holds_of y d) h ∙ sym (ap (λ x. after_step x (deed_of w e) (holds_of w) d) s)
shape_kept w e o v (goes c i s lt b) = goes_kept w c e o v i lt s b
shape_kept w e o v (aims c place target a s lt p h) = nothing w e o v (aims_nothing w c place e target a) (λ d. ap (λ y. holds_of y d) h)
shape_kept w e o v (gives_up c i s lt can u h) = nothing w e o v (ap (deed_of w) i) (λ d. ap (λ y. holds_of y d) h)
shape_kept w e o v (works c s lt b) = works_kept w c e o v lt s b
shape_kept w e o v (joins p t i s page j m h) = nothing w e o v (ap (deed_of w) i) (λ d. ap (λ y. holds_of y d) h)

pub step_kept : (w : World) (e : Event) (o : Outcome) (v : World) → Step w e o v
    → (d : ℕ) → holds_of v d ≡ after_step o (deed_of w e) (holds_of w) d
step_kept w e o v s = go (nat_lt w.calls.events event_limit) refl s
  where
    shaped : nat_lt w.calls.events event_limit ≡ true → Comes w e o v → Kept w e o v
    shaped is (stopped lt i h) = absurd cc
    shaped is (happens lt h) = shape_kept (with_event w) e o v h

    go : (b : Bool) → nat_lt w.calls.events event_limit ≡ b
        → cond b (cond (is_here w.made (core_of e)) (Acts (with_event w) e o v) (Idles (with_event w) o v)) ((o ≡ Full) × (v ≡ w)) → Kept w e o v
    go true is k = shaped is (comes w e o v s)
    go false is k = λ d. ap (λ x. holds_of x d) k.1 ∙ sym (ap (λ x. after_step x (deed_of w e) (holds_of w) d) k.0)
