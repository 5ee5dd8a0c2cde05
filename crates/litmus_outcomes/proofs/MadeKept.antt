-- A machine stays what it was made with.
use Rattle.machine_model.proofs.Words.{◌≡◌, ℕ, refl, ap, World, Step}
use Rattle.machine_model.specs.declared.event.Event.{Event}
use Rattle.machine_model.specs.declared.event.Outcome.{Outcome}
use Rattle.machine_model.proofs.Shapes.{GoesBy, moves, divides, cuts, fits, owns, lets_go, answers, posts, commits, takes, zeroes, first_copies}
use Rattle.machine_model.proofs.Shapes.{caches, shares, posts_copy}
use Rattle.machine_model.proofs.Shapes.{copies, installs, accesses, faults, Works, clears, invalidates, walks, evicts, flushes, reviews, frees}
use Rattle.machine_model.proofs.Shapes.{Shape, rests, begins, ends, goes, aims, gives_up, works, joins, Comes, stopped, acts, comes}
use Rattle.machine_model.specs.Step.{with_event}

by_going : (w : World) (c : ℕ) (v : World) → GoesBy w c v → v.made ≡ w.made
by_going w c v (moves new m h) = ap (λ (x : World). x.made) h
by_going w c v (divides goal cursor t p s h) = ap (λ (x : World). x.made) h
by_going w c v (cuts place target range t p s h) = ap (λ (x : World). x.made) h
by_going w c v (fits place target range p s h) = ap (λ (x : World). x.made) h
by_going w c v (owns goal cursor b t p s h) = ap (λ (x : World). x.made) h
by_going w c v (lets_go held b t new p s h) = ap (λ (x : World). x.made) h
by_going w c v (answers held reply r h) = ap (λ (x : World). x.made) h
by_going w c v (posts change shoot p h) = ap (λ (x : World). x.made) h
by_going w c v (commits goal change counts p a s h) = ap (λ (x : World). x.made) h
by_going w c v (takes touch old f p i h) = ap (λ (x : World). x.made) h
by_going w c v (zeroes touch f counts p b s h) = ap (λ (x : World). x.made) h
by_going w c v (first_copies touch f counts p b s h) = ap (λ (x : World). x.made) h
by_going w c v (caches touch f counts p b n s h) = ap (λ (x : World). x.made) h
by_going w c v (shares touch own x counts p b n s h) = ap (λ (x : World). x.made) h
by_going w c v (posts_copy touch f p h) = ap (λ (x : World). x.made) h
by_going w c v (copies touch f x counts p a i s h) = ap (λ (x : World). x.made) h
by_going w c v (installs touch p h) = ap (λ (x : World). x.made) h
by_going w c v (accesses touch f p i h) = ap (λ (x : World). x.made) h
by_going w c v (faults touch p i h) = ap (λ (x : World). x.made) h

by_work : (w : World) (c : ℕ) (e : Event) (v : World) → Works w c e v → v.made ≡ w.made
by_work w c e v (clears i range a h) = ap (λ (x : World). x.made) h
by_work w c e v (invalidates i range a h) = ap (λ (x : World). x.made) h
by_work w c e v (walks p i can h) = ap (λ (x : World). x.made) h
by_work w c e v (evicts p i some h) = ap (λ (x : World). x.made) h
by_work w c e v (flushes i report counts t h) = ap (λ (x : World). x.made) h
by_work w c e v (reviews i report counts t h) = ap (λ (x : World). x.made) h
by_work w c e v (frees i f counts t h) = ap (λ (x : World). x.made) h

by_shape : (w : World) (e : Event) (o : Outcome) (v : World) → Shape w e o v → v.made ≡ w.made
by_shape w e o v (rests r h) = ap (λ (x : World). x.made) h
by_shape w e o v (begins c request i s lt p below h) = ap (λ (x : World). x.made) h
by_shape w e o v (ends c reply i s lt p h) = ap (λ (x : World). x.made) h
by_shape w e o v (goes c i s lt k) = by_going w c v k
by_shape w e o v (aims c place target a s lt p h) = ap (λ (x : World). x.made) h
by_shape w e o v (gives_up c i s lt can u h) = ap (λ (x : World). x.made) h
by_shape w e o v (works c s lt g) = by_work w c e v g
by_shape w e o v (joins p t i s page j m h) = ap (λ (x : World). x.made) h

pub made_kept : (w : World) (e : Event) (o : Outcome) (v : World) → Step w e o v → v.made ≡ w.made
made_kept w e o v s = go (comes w e o v s)
  where
    go : Comes w e o v → v.made ≡ w.made
    go (stopped n i h) = ap (λ (x : World). x.made) h
    go (acts n shape) = by_shape (with_event w) e o v shape
