-- Which step makes an entry of the log
use Rattle.machine_model.proofs.Words.{◌≡◌, ℕ, refl, ap, true, Some, Option, PageRange, Reply, World, Step, with_event, core_of, inl, inr}
use Rattle.std.proofs.Common.{◌⊎◌, ⊎_elim}
use Rattle.real_mmu.proofs.Words.{Event, Outcome}
use Rattle.machine_model.proofs.Shapes.{Replies, refuses, no_place, declines, fails, no_frame}
use Rattle.machine_model.proofs.Shapes.{GoesBy, moves, divides, cuts, fits, owns, lets_go, answers, posts, commits, takes, zeroes, first_copies, caches}
use Rattle.machine_model.proofs.Shapes.{shares, posts_copy, copies, installs, accesses, faults, Works, clears, invalidates, walks, evicts, flushes, reviews}
use Rattle.machine_model.proofs.Shapes.{frees, Shape, rests, begins, ends, goes, aims, gives_up, works, joins, IsGoing, going, picking, Comes, stopped}
use Rattle.machine_model.proofs.Shapes.{acts as happens, comes}
use Rattle.real_mmu.specs.Entries.{IsEntering, may_enter}

-- the log as it was
same_log : (v x : World) → v ≡ x → v.calls.log ≡ x.calls.log
same_log v x h = ap (λ (y : World). y.calls.log) h

replies_enter : (w : World) (c : ℕ) (held : Option PageRange) (reply : Reply) → Replies w c held reply → may_enter (w.calls.phase c) ≡ true
replies_enter w c held reply (refuses a e h k) = ap may_enter e
replies_enter w c held reply (no_place a b d e h r k) = ap may_enter e
replies_enter w c held reply (declines a b e h r k) = ap may_enter e
replies_enter w c held reply (fails a e h k) = ap may_enter e
replies_enter w c held reply (no_frame a b e h r k) = ap may_enter e

goes_enter : (w : World) (c : ℕ) (v : World) → GoesBy w c v → (v.calls.log ≡ w.calls.log) ⊎ (may_enter (w.calls.phase c) ≡ true)
goes_enter w c v (moves a b h) = inl (same_log v _ h)
goes_enter w c v (divides a b d e f h) = inl (same_log v _ h)
goes_enter w c v (cuts a b d e f g h) = inl (same_log v _ h)
goes_enter w c v (fits a b d e f h) = inl (same_log v _ h)
goes_enter w c v (owns a b d e f g h) = inl (same_log v _ h)
goes_enter w c v (lets_go a b d e f g h) = inl (same_log v _ h)
goes_enter w c v (answers a b r h) = inr (replies_enter w c a b r)
goes_enter w c v (posts a b d h) = inl (same_log v _ h)
goes_enter w c v (commits a b d e f g h) = inr (ap may_enter e)
goes_enter w c v (takes a b d e f h) = inl (same_log v _ h)
goes_enter w c v (zeroes a b d e f g h) = inl (same_log v _ h)
goes_enter w c v (first_copies a b d e f g h) = inr (ap may_enter e)
goes_enter w c v (caches a b d e f g i h) = inl (same_log v _ h)
goes_enter w c v (shares a b d e f g i j h) = inl (same_log v _ h)
goes_enter w c v (posts_copy a b d h) = inl (same_log v _ h)
goes_enter w c v (copies a b d e f g i j h) = inr (ap may_enter f)
goes_enter w c v (installs a b h) = inl (same_log v _ h)
goes_enter w c v (accesses a b d e h) = inr (ap may_enter d)
goes_enter w c v (faults a b d h) = inl (same_log v _ h)

works_same : (w : World) (c : ℕ) (e : Event) (v : World) → Works w c e v → v.calls.log ≡ w.calls.log
works_same w c e v (clears a b d h) = same_log v _ h
works_same w c e v (invalidates a b d h) = same_log v _ h
works_same w c e v (walks a b d h) = same_log v _ h
works_same w c e v (evicts a b d h) = same_log v _ h
works_same w c e v (flushes a b d f h) = same_log v _ h
works_same w c e v (reviews a b d f h) = same_log v _ h
works_same w c e v (frees a b d f h) = same_log v _ h

going_of : (c : ℕ) (e : Event) → IsGoing c e → core_of e ≡ Some c
going_of c e going = refl
going_of c e (picking f) = refl

shape_enters : (w : World) (e : Event) (o : Outcome) (v : World) → Shape (with_event w) e o v → (v.calls.log ≡ w.calls.log) ⊎ IsEntering w e
shape_enters w e o v (rests i h) = inl (same_log v _ h)
shape_enters w e o v (begins a b d f g i j h) = inl (same_log v _ h)
shape_enters w e o v (ends a b d f g i h) = inl (same_log v _ h)
shape_enters w e o v (goes c i s lt g) =
    ⊎_elim inl (λ d. inr (record { core = c; is_of = going_of c e i; due = inr d })) (goes_enter (with_event w) c v g)
shape_enters w e o v (aims a b d f g i j h) = inl (same_log v _ h)
shape_enters w e o v (gives_up a b d f g i h) = inr (record { core = a; is_of = ap core_of b; due = inl b })
shape_enters w e o v (works c s lt k) = inl (works_same (with_event w) c e v k)
shape_enters w e o v (joins a b d f g i j h) = inl (same_log v _ h)

step_enters : (w : World) (e : Event) (o : Outcome) (v : World) → Comes w e o v → (v.calls.log ≡ w.calls.log) ⊎ IsEntering w e
step_enters w e o v (stopped n i h) = inl (same_log v w h)
step_enters w e o v (happens n h) = shape_enters w e o v h

pub all_enter : (w v : World) (e : Event) (o : Outcome) → Step w e o v → (v.calls.log ≡ w.calls.log) ⊎ IsEntering w e
all_enter w v e o s = step_enters w e o v (comes w e o v s)
