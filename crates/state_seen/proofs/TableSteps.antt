-- What a step does to tables is its event's edit.
use Rattle.machine_model.proofs.Words.{◌≡◌, ℕ, ◌<◌, ◌==◌, Bool, true, false, cond, refl, sym, ap, subst, ◌∙◌, arith, nat_lt, nat_tests, List}
use Rattle.machine_model.proofs.Words.{◌++◌, ◌∷◌, []}
use Rattle.machine_model.proofs.Words.{put, eq_true, has, members, None, Option, Reply, Took, Place, Target}
use Rattle.machine_model.proofs.Words.{PageRange, Message, World, asked, Touch, Translation}
use Rattle.machine_model.proofs.Words.{with_event, event_limit, Step, Acts, is_here, core_of, Idles, page_of_touch}
use Rattle.machine_model.specs.declared.event.Event.{Event}
use Rattle.machine_model.specs.declared.event.Outcome.{Outcome}
use Rattle.machine_model.specs.declared.event.Outcome.TheVariants.{Full, Stepped}
use Rattle.machine_model.specs.declared.phase.Phase.{Phase}
use Rattle.vm_base.specs.Functions.{over}
use Rattle.vm_base.proofs.Functions.{put_same}
use Rattle.mmu.specs.declared.message.Took.TheVariants as took
use Rattle.slot_lock.specs.Plan.{range_of}
use Rattle.machine_model.specs.Translating.{entry_of_page}
use Rattle.machine_model.specs.declared.event.Outcome.TheVariants.{Idle, Wait, Answered}
use Rattle.machine_model.proofs.Shapes.{Rests, absent, busy, full, free, cannot, waits, awaits, Moves, locks, tries, hints, seeks, guesses}
use Rattle.machine_model.proofs.Shapes.{turns, chooses}
use Rattle.machine_model.proofs.Shapes.{acts as decides, finds, lacks, shows, Replies, refuses, no_place, declines, fails, no_frame, LetsGo}
use Rattle.machine_model.proofs.Shapes.{unlocks, returns, releases}
use Rattle.machine_model.proofs.Shapes.{GoesBy, moves, divides, cuts, fits, owns, lets_go, answers, posts, commits, takes, zeroes}
use Rattle.machine_model.proofs.Shapes.{first_copies, caches, shares}
use Rattle.machine_model.proofs.Shapes.{posts_copy, copies, installs, accesses, faults, Works, clears, invalidates, walks, evicts, flushes}
use Rattle.machine_model.proofs.Shapes.{reviews, frees}
use Rattle.machine_model.proofs.Shapes.{IsGoing, going, picking, IsAiming, at_run, at_window, Shape, rests, begins, ends, goes, aims}
use Rattle.machine_model.proofs.Shapes.{gives_up, works, joins}
use Rattle.machine_model.proofs.Shapes.{Comes, stopped, acts as happens, comes}
use Rattle.state_seen.specs.declared.edit.TableStep.{TableStep}
use Rattle.state_seen.specs.declared.edit.TableStep.TheVariants.{Nothing, Clear, Take, Install}
use Rattle.state_seen.specs.Edits.{after_edit, edit_at, edit_of, edited, if_edits, taken_from}

abbrev Tables : Type 0
Tables = ℕ → ℕ → Option Translation

abbrev Inboxes : Type 0
Inboxes = ℕ → List Message

unchanged_at : (t : Tables) (c d p : ℕ) → put t c (t c) d p ≡ t d p
unchanged_at t c d p = go (d == c) refl
  where
    go : (b : Bool) → (d == c) ≡ b → cond b (t c) (t d) p ≡ t d p
    go true e = ap (λ k. t k p) (sym (eq_true d c e))
    go false e = refl

-- ---- a step that does nothing to them

nothing_edited : (o : Outcome) (i : Inboxes) (v t : Tables) → after_edit o Nothing i v t ≡ t
nothing_edited Stepped i v t = refl
nothing_edited (Wait blocker) i v t = refl
nothing_edited Idle i v t = refl
nothing_edited (Answered reply) i v t = refl
nothing_edited Full i v t = refl

rests_still : (w : World) (e : Event) (o : Outcome) (edit : TableStep) (i : Inboxes) (v t : Tables) → Rests w e o → after_edit o edit i v t ≡ t
rests_still w e o edit i v t (absent g h) = ap (λ x. after_edit x edit i v t) h
rests_still w e o edit i v t (busy c request g n h) = ap (λ x. after_edit x edit i v t) h
rests_still w e o edit i v t (full c request g n h) = ap (λ x. after_edit x edit i v t) h
rests_still w e o edit i v t (free c g n h) = ap (λ x. after_edit x edit i v t) h
rests_still w e o edit i v t (cannot g k h) = ap (λ x. after_edit x edit i v t) h
rests_still w e o edit i v t (waits c goal cursor by g p ne own h) = ap (λ x. after_edit x edit i v t) h
rests_still w e o edit i v t (awaits c range set g p a h) = ap (λ x. after_edit x edit i v t) h

abbrev after : World → Event → Outcome → World → Tables
after w e o v = after_edit o (edit_of w e) w.hardware.inbox v.hardware.table w.hardware.table

abbrev Kept : World → Event → Outcome → World → Type 0
Kept w e o v = (d p : ℕ) → v.hardware.table d p ≡ after w e o v d p

-- where the edit is nothing, and tables are the same
nothing : (w : World) (e : Event) (o : Outcome) (v : World) → edit_of w e ≡ Nothing
    → ((d p : ℕ) → v.hardware.table d p ≡ w.hardware.table d p) → Kept w e o v
nothing w e o v n same d p =
    same d p ∙ sym (ap (λ x. after_edit o x w.hardware.inbox v.hardware.table w.hardware.table d p) n
    ∙ ap (λ f. f d p) (nothing_edited o w.hardware.inbox v.hardware.table w.hardware.table))

-- an edit that is made
made : (w : World) (e : Event) (o : Outcome) (v : World) (edit : TableStep) → o ≡ Stepped → edit_of w e ≡ edit
    → ((d p : ℕ) → v.hardware.table d p ≡ edited edit w.hardware.inbox v.hardware.table w.hardware.table d p) → Kept w e o v
made w e o v edit s n same d p =
    same d p ∙ sym (ap (λ x. after_edit x (edit_of w e) w.hardware.inbox v.hardware.table w.hardware.table d p) s
    ∙ ap (λ x. edited x w.hardware.inbox v.hardware.table w.hardware.table d p) n)

here : (w : World) (c : ℕ) (edit : TableStep) → c < w.made.cores → if_edits w c edit ≡ edit
here w c edit lt = let is : nat_lt c w.made.cores ≡ true = grind (arith, nat_tests) in ap (λ b. cond b edit Nothing) is

-- the event of a call that goes on
at_phase : (w : World) (c : ℕ) (e : Event) → IsGoing c e → c < w.made.cores → edit_of w e ≡ edit_at c (w.calls.phase c)
at_phase w c e going lt = here w c (edit_at c (w.calls.phase c)) lt
at_phase w c e (picking f) lt = here w c (edit_at c (w.calls.phase c)) lt

moves_nothing : (w : World) (c : ℕ) (new : Phase) → Moves w c new → edit_at c (w.calls.phase c) ≡ Nothing
moves_nothing w c new (locks request change e n k) = ap (edit_at c) e
moves_nothing w c new (tries request touch e n k) = ap (edit_at c) e
moves_nothing w c new (hints request place range e n i k) = ap (edit_at c) e
moves_nothing w c new (seeks request place e n k) = ap (edit_at c) e
moves_nothing w c new (guesses place found e n i) = ap (edit_at c) e
moves_nothing w c new (turns place target e n d) = ap (edit_at c) e
moves_nothing w c new (chooses place target range shoot e n d) = ap (edit_at c) e
moves_nothing w c new (decides change range shoot e n d) = ap (edit_at c) e
moves_nothing w c new (finds touch f e n u) = ap (edit_at c) e
moves_nothing w c new (lacks touch old e n u d) = ap (edit_at c) e
moves_nothing w c new (shows touch e n u d) = ap (edit_at c) e

replies_nothing : (w : World) (c : ℕ) (held : Option PageRange) (reply : Reply) → Replies w c held reply → edit_at c (w.calls.phase c) ≡ Nothing
replies_nothing w c held reply (refuses request e h k) = ap (edit_at c) e
replies_nothing w c held reply (no_place place target errno e h r d) = ap (edit_at c) e
replies_nothing w c held reply (declines change errno e h r d) = ap (edit_at c) e
replies_nothing w c held reply (fails touch e h f) = ap (edit_at c) e
replies_nothing w c held reply (no_frame touch old e h r f) = ap (edit_at c) e

lets_go_nothing : (w : World) (c : ℕ) (old : Phase) (held : PageRange) (b : ℕ) (new : Phase) → LetsGo old held b new → edit_at c old ≡ Nothing
lets_go_nothing w c old held b new (unlocks reply e n) = ap (edit_at c) e
lets_go_nothing w c old held b new (returns place target e n) = ap (edit_at c) e
lets_go_nothing w c old held b new (releases touch e h n) = ap (edit_at c) e

-- ---- every shape

-- what the tables have where an entry was installed
new_entry : (t u : Tables) (c page : ℕ) (entry : Option Translation) → u ≡ put t c (put (t c) page entry) → (d p : ℕ)
    → u d p ≡ put t c (put (t c) page (u c page)) d p
new_entry t u c page entry h d p = ap (λ f. f d p) h ∙ ap (λ x. put t c (put (t c) page x) d p) (sym it)
  where
    it : u c page ≡ entry
    it = ap (λ f. f c page) h ∙ ap (λ f. f page) (put_same t c (put (t c) page entry)) ∙ put_same (t c) page entry

goes_kept : (w : World) (c : ℕ) (e : Event) (o : Outcome) (v : World) → IsGoing c e → c < w.made.cores → o ≡ Stepped → GoesBy w c v → Kept w e o v
goes_kept w c e o v g lt s b = by b
  where
    at : edit_of w e ≡ edit_at c (w.calls.phase c)
    at = at_phase w c e g lt

    none : (x : World) → edit_at c (w.calls.phase c) ≡ Nothing → v ≡ x → ((d p : ℕ) → x.hardware.table d p ≡ w.hardware.table d p) → Kept w e o v
    none x n h same = nothing w e o v (at ∙ n) (λ d p. ap (λ y. y.hardware.table d p) h ∙ same d p)

    by : GoesBy w c v → Kept w e o v
    by (moves new m h) = none _ (moves_nothing w c new m) h (λ d p. refl)
    by (divides goal cursor t q p h) = none _ (ap (edit_at c) q) h (λ d p. refl)
    by (cuts place target range t q p h) = none _ (ap (edit_at c) q) h (λ d p. refl)
    by (fits place target range q cut h) = none _ (ap (edit_at c) q) h (λ d p. refl)
    by (owns goal cursor b t q l h) = none _ (ap (edit_at c) q) h (λ d p. refl)
    by (lets_go held b t new l u h) = none _ (lets_go_nothing w c (w.calls.phase c) held b new l) h (λ d p. refl)
    by (answers held reply r h) = none _ (replies_nothing w c held reply r) h (λ d p. refl)
    by (posts change shoot q h) = made w e o v (Clear c (range_of change)) s (at ∙ ap (edit_at c) q) (λ d p. ap (λ y. y.hardware.table d p) h)
    by (commits goal change counts q nobody l h) = none _ (ap (edit_at c) q) h (λ d p. refl)
    by (takes touch old f q l h) = none _ (ap (edit_at c) q) h (λ d p. refl)
    by (zeroes touch f counts q b t h) = none _ (ap (edit_at c) q) h (λ d p. refl)
    by (first_copies touch f counts q b t h) = none _ (ap (edit_at c) q) h (λ d p. refl)
    by (caches touch f counts q p none_cached t h) = none _ (ap (edit_at c) q) h (λ d p. refl)
    by (shares touch own x counts q p i t h) = none _ (ap (edit_at c) q) h (λ d p. refl)
    by (posts_copy touch f q h) = made w e o v (Clear c (page_of_touch touch)) s (at ∙ ap (edit_at c) q) (λ d p. ap (λ y. y.hardware.table d p) h)
    by (copies touch f x counts q nobody i t h) = none _ (ap (edit_at c) q) h (λ d p. refl)
    by (installs touch q h) = made w e o v (Install c touch.page) s (at ∙ ap (edit_at c) q)
        (new_entry w.hardware.table v.hardware.table c touch.page (entry_of_page w.memory.cached (w.slots.info touch.page))
        (ap (λ y. y.hardware.table) h))
    by (accesses touch f q i h) = none _ (ap (edit_at c) q) h (λ d p. refl)
    by (faults touch q i h) = none _ (ap (edit_at c) q) h (λ d p. refl)

took_of : (w : World) (c : ℕ) (x : Took) → asked (w.hardware.inbox c) ≡ x → (d p : ℕ)
    → put w.hardware.table c (taken_from (asked (w.hardware.inbox c)) (w.hardware.table c)) d p
    ≡ put w.hardware.table c (taken_from x (w.hardware.table c)) d p
took_of w c x e d p = ap (λ y. put w.hardware.table c (taken_from y (w.hardware.table c)) d p) e

works_kept : (w : World) (c : ℕ) (e : Event) (o : Outcome) (v : World) → c < w.made.cores → o ≡ Stepped → Works w c e v → Kept w e o v
works_kept w c e o v lt s (clears i range a h) = made w e o v (Take c) s (ap (edit_of w) i ∙ here w c (Take c) lt)
    (λ d p. ap (λ y. y.hardware.table d p) h ∙ sym (took_of w c (took.Clear range) a d p))
works_kept w c e o v lt s (invalidates i range a h) = made w e o v (Take c) s (ap (edit_of w) i ∙ here w c (Take c) lt)
    (λ d p. ap (λ y. y.hardware.table d p) h ∙ sym (took_of w c (took.Invalidate range) a d p ∙ unchanged_at w.hardware.table c d p))
works_kept w c e o v lt s (walks page i a h) = nothing w e o v (ap (edit_of w) i) (λ d p. ap (λ y. y.hardware.table d p) h)
works_kept w c e o v lt s (evicts page i a h) = nothing w e o v (ap (edit_of w) i) (λ d p. ap (λ y. y.hardware.table d p) h)
works_kept w c e o v lt s (flushes i report counts t h) = nothing w e o v (ap (edit_of w) i) (λ d p. ap (λ y. y.hardware.table d p) h)
works_kept w c e o v lt s (reviews i report counts t h) = nothing w e o v (ap (edit_of w) i) (λ d p. ap (λ y. y.hardware.table d p) h)
works_kept w c e o v lt s (frees i f counts t h) = nothing w e o v (ap (edit_of w) i) (λ d p. ap (λ y. y.hardware.table d p) h)

aims_nothing : (w : World) (c : ℕ) (place : Place) (e : Event) (target : Target) → IsAiming c place e target → edit_of w e ≡ Nothing
aims_nothing w c place e target (at_run page run) = refl
aims_nothing w c place e target at_window = refl

shape_kept : (w : World) (e : Event) (o : Outcome) (v : World) → Shape w e o v → Kept w e o v
shape_kept w e o v (rests i h) = λ d p. ap (λ x. x.hardware.table d p) h
    ∙ sym (ap (λ f. f d p) (rests_still w e o (edit_of w e) w.hardware.inbox v.hardware.table w.hardware.table i))
shape_kept w e o v (begins c request i s lt q below h) = nothing w e o v (ap (edit_of w) i) (λ d p. ap (λ y. y.hardware.table d p) h)
shape_kept w e o v (ends c reply i s lt q h) = λ d p. ap (λ y. y.hardware.table d p) h
    ∙ sym (ap (λ x. after_edit x (edit_of w e) w.hardware.inbox v.hardware.table w.hardware.table d p) s)
shape_kept w e o v (goes c i s lt b) = goes_kept w c e o v i lt s b
shape_kept w e o v (aims c place target a s lt q h) = nothing w e o v (aims_nothing w c place e target a) (λ d p. ap (λ y. y.hardware.table d p) h)
shape_kept w e o v (gives_up c i s lt can u h) = nothing w e o v (ap (edit_of w) i) (λ d p. ap (λ y. y.hardware.table d p) h)
shape_kept w e o v (works c s lt b) = works_kept w c e o v lt s b
shape_kept w e o v (joins q t i s page j m h) = nothing w e o v (ap (edit_of w) i) (λ d p. ap (λ y. y.hardware.table d p) h)

pub tables_kept : (w : World) (e : Event) (o : Outcome) (v : World) → Step w e o v → (d p : ℕ)
    → v.hardware.table d p ≡ after_edit o (edit_of w e) w.hardware.inbox v.hardware.table w.hardware.table d p
tables_kept w e o v s = go (nat_lt w.calls.events event_limit) refl s
  where
    shaped : nat_lt w.calls.events event_limit ≡ true → Comes w e o v → Kept w e o v
    shaped is (stopped lt i h) = absurd cc
    shaped is (happens lt h) = shape_kept (with_event w) e o v h

    go : (b : Bool) → nat_lt w.calls.events event_limit ≡ b
        → cond b (cond (is_here w.made (core_of e)) (Acts (with_event w) e o v) (Idles (with_event w) o v)) ((o ≡ Full) × (v ≡ w)) → Kept w e o v
    go true is k = shaped is (comes w e o v s)
    go false is k = λ d p. ap (λ x. x.hardware.table d p) k.1
        ∙ sym (ap (λ x. after_edit x (edit_of w e) w.hardware.inbox v.hardware.table w.hardware.table d p) k.0)
