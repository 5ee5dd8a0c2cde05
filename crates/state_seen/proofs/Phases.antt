-- A step changes where the call of its own core stands, and no other.
use Rattle.machine_model.proofs.Words.{◌≡◌, ◌≢◌, ℕ, ◌==◌, Bool, true, false, cond, refl, sym, ap, subst, ◌∙◌, nat_lt, Some, None, Option, put}
use Rattle.machine_model.proofs.Words.{Place, Target, World, with_event, event_limit, Step, Acts, is_here, core_of, Idles}
use Rattle.machine_model.specs.declared.event.Event.{Event}
use Rattle.machine_model.specs.declared.event.Outcome.{Outcome}
use Rattle.machine_model.specs.declared.event.Outcome.TheVariants.{Full}
use Rattle.machine_model.specs.declared.phase.Phase.{Phase}
use Rattle.machine_model.specs.declared.phase.Phase.TheVariants.{Free}
use Rattle.vm_base.proofs.Functions.{put_other}
use Rattle.machine_model.proofs.Shapes.{GoesBy, moves, divides, cuts, fits, owns, lets_go, answers, posts, commits, takes, zeroes}
use Rattle.machine_model.proofs.Shapes.{first_copies, caches, shares}
use Rattle.machine_model.proofs.Shapes.{posts_copy, copies, installs, accesses, faults, Works, clears, invalidates, walks, evicts, flushes}
use Rattle.machine_model.proofs.Shapes.{reviews, frees}
use Rattle.machine_model.proofs.Shapes.{IsGoing, going, picking, IsAiming, at_run, at_window, Shape, rests, begins, ends, goes, aims}
use Rattle.machine_model.proofs.Shapes.{gives_up, works, joins}
use Rattle.machine_model.proofs.Shapes.{Comes, stopped, acts as happens, comes}
use Rattle.state_seen.specs.Shown.{phase_in}

-- another core's call
abbrev Stays : World → World → ℕ → Type 0
Stays w v d = phase_in v d ≡ phase_in w d

put_phase : (w : World) (c d : ℕ) (new : Phase) → d ≢ c → cond (nat_lt d w.made.cores) (put w.calls.phase c new d) Free ≡ phase_in w d
put_phase w c d new ne = ap (λ p. cond (nat_lt d w.made.cores) p Free) (put_other w.calls.phase c new d ne)

goes_stay : (w : World) (c : ℕ) (v : World) (d : ℕ) → d ≢ c → GoesBy w c v → Stays w v d
goes_stay w c v d ne b = by b
  where
    at : (x : World) → v ≡ x → Stays w x d → Stays w v d
    at x h same = ap (λ y. phase_in y d) h ∙ same

    by : GoesBy w c v → Stays w v d
    by (moves new m h) = at _ h (put_phase w c d _ ne)
    by (divides goal cursor t q p h) = at _ h refl
    by (cuts place target range t q p h) = at _ h refl
    by (fits place target range q cut h) = at _ h (put_phase w c d _ ne)
    by (owns goal cursor b t q l h) = at _ h (put_phase w c d _ ne)
    by (lets_go held b t new l u h) = at _ h (put_phase w c d _ ne)
    by (answers held reply r h) = at _ h (put_phase w c d _ ne)
    by (posts change shoot q h) = at _ h (put_phase w c d _ ne)
    by (commits goal change counts q nobody l h) = at _ h (put_phase w c d _ ne)
    by (takes touch old f q l h) = at _ h (put_phase w c d _ ne)
    by (zeroes touch f counts q b t h) = at _ h (put_phase w c d _ ne)
    by (first_copies touch f counts q b t h) = at _ h (put_phase w c d _ ne)
    by (caches touch f counts q p none_cached t h) = at _ h (put_phase w c d _ ne)
    by (shares touch own x counts q p i t h) = at _ h (put_phase w c d _ ne)
    by (posts_copy touch f q h) = at _ h (put_phase w c d _ ne)
    by (copies touch f x counts q nobody i t h) = at _ h (put_phase w c d _ ne)
    by (installs touch q h) = at _ h (put_phase w c d _ ne)
    by (accesses touch f q i h) = at _ h (put_phase w c d _ ne)
    by (faults touch q i h) = at _ h (put_phase w c d _ ne)

works_stay : (w : World) (c : ℕ) (e : Event) (v : World) (d : ℕ) → Works w c e v → Stays w v d
works_stay w c e v d (clears i range a h) = ap (λ y. phase_in y d) h
works_stay w c e v d (invalidates i range a h) = ap (λ y. phase_in y d) h
works_stay w c e v d (walks p i a h) = ap (λ y. phase_in y d) h
works_stay w c e v d (evicts p i a h) = ap (λ y. phase_in y d) h
works_stay w c e v d (flushes i report counts t h) = ap (λ y. phase_in y d) h
works_stay w c e v d (reviews i report counts t h) = ap (λ y. phase_in y d) h
works_stay w c e v d (frees i f counts t h) = ap (λ y. phase_in y d) h

going_core : (c : ℕ) (e : Event) → IsGoing c e → core_of e ≡ Some c
going_core c e going = refl
going_core c e (picking f) = refl

aiming_core : (c : ℕ) (place : Place) (e : Event) (target : Target) → IsAiming c place e target → core_of e ≡ Some c
aiming_core c place e target (at_run p run) = refl
aiming_core c place e target at_window = refl

-- the event isn't the core's
other : (o : Option ℕ) (c d : ℕ) → o ≡ Some c → o ≢ Some d → d ≢ c
other o c d is out same = out (is ∙ ap Some (sym same))

shape_stays : (w : World) (e : Event) (o : Outcome) (v : World) (d : ℕ) → core_of e ≢ Some d → Shape w e o v → Stays w v d
shape_stays w e o v d out (rests i h) = ap (λ y. phase_in y d) h
shape_stays w e o v d out (begins c request i s lt p below h) =
    ap (λ y. phase_in y d) h ∙ put_phase w c d _ (other (core_of e) c d (ap core_of i) out)
shape_stays w e o v d out (ends c reply i s lt p h) = ap (λ y. phase_in y d) h ∙ put_phase w c d _ (other (core_of e) c d (ap core_of i) out)
shape_stays w e o v d out (goes c i s lt b) = goes_stay w c v d (other (core_of e) c d (going_core c e i) out) b
shape_stays w e o v d out (aims c place target a s lt p h) =
    ap (λ y. phase_in y d) h ∙ put_phase w c d _ (other (core_of e) c d (aiming_core c place e target a) out)
shape_stays w e o v d out (gives_up c i s lt can u h) =
    ap (λ y. phase_in y d) h ∙ put_phase w c d _ (other (core_of e) c d (ap core_of i) out)
shape_stays w e o v d out (works c s lt b) = works_stay w c e v d b
shape_stays w e o v d out (joins p t i s page j m h) = ap (λ y. phase_in y d) h

pub step_stays : (w : World) (e : Event) (o : Outcome) (v : World) → Step w e o v → (d : ℕ) → core_of e ≢ Some d → phase_in v d ≡ phase_in w d
step_stays w e o v s d out = go (nat_lt w.calls.events event_limit) refl s
  where
    shaped : nat_lt w.calls.events event_limit ≡ true → Comes w e o v → Stays w v d
    shaped is (stopped lt i h) = absurd cc
    shaped is (happens lt h) = shape_stays (with_event w) e o v d out h

    go : (b : Bool) → nat_lt w.calls.events event_limit ≡ b
        → cond b (cond (is_here w.made (core_of e)) (Acts (with_event w) e o v) (Idles (with_event w) o v)) ((o ≡ Full) × (v ≡ w)) → Stays w v d
    go true is k = shaped is (comes w e o v s)
    go false is k = ap (λ x. phase_in x d) k.1
