-- A page that some core uses has a frame.
use Rattle.machine_model.proofs.Words.{◌≡◌, ℕ, true, refl, sym, ap, subst, Some, None, Option, List, [], ◌∷◌, ◌∙◌, is_some, PageInfo, Access, Prot, put}
use Rattle.machine_model.proofs.Words.{frame_of, is_recorded, info_with_frame, info_with_prot, info_with_core, File, members-empty, put_all, Slots, Event}
use Rattle.machine_model.proofs.Words.{Outcome, Install, info_with_copy, World, new_world, Run, with_event}
use Rattle.machine_model.specs.Orderly.{IsUsable}
use Rattle.machine_model.proofs.Changed.{changed_all}
use Rattle.machine_model.proofs.Moves.{IsCallOf, call_at}
use Rattle.machine_model.proofs.Shapes.{GoesBy, moves, divides, cuts, fits, owns, lets_go, answers, posts, commits, takes, zeroes, first_copies, caches, shares}
use Rattle.machine_model.proofs.Shapes.{posts_copy, copies, installs, accesses, faults, Works, clears, invalidates, walks, evicts, flushes, reviews, frees}
use Rattle.machine_model.proofs.Shapes.{Shape, rests, begins, ends, goes, aims, gives_up, works, joins, Comes, stopped, acts as happens, comes}
use Rattle.machine_model.specs.Invariant.{IsWellFormed}
use Rattle.machine_model.specs.Sound.{IsReached}
use Rattle.machine_model.proofs.SoundKept.{fine_step}
use Rattle.machine_model.proofs.SoundOpening.{fine_opening}

-- of what a page has
abbrev pub IsFramedFor : Option PageInfo → Type 0
IsFramedFor o = (c : ℕ) → is_recorded o c ≡ true → is_some (frame_of o) ≡ true

abbrev pub AreFramed : (ℕ → Option PageInfo) → Type 0
AreFramed info = (p : ℕ) → IsFramedFor (info p)

-- ---- pages

filled_framed : (f : ℕ) (o : Option PageInfo) → IsFramedFor (info_with_frame f o)
filled_framed f None c h = absurd cc
filled_framed f (Some info) c h = refl

copied_framed : (f : ℕ) (o : Option PageInfo) → IsFramedFor (info_with_copy f o)
copied_framed f None c h = absurd cc
copied_framed f (Some info) c h = refl

with_core_framed : (core : ℕ) (file : ℕ → Option File) (access : Access) (f : ℕ) (o : Option PageInfo) → IsUsable file o access (Some f)
    → IsFramedFor (info_with_core core o)
with_core_framed core file access f None u c h = absurd u
with_core_framed core file access f (Some info) u c h = ap is_some u.2

protected_framed : (o : Option PageInfo) (prot : Prot) → IsFramedFor (info_with_prot prot o)
protected_framed None prot c h = absurd cc
protected_framed (Some info) prot c h = absurd (let a = members-empty c in cc (a, h))

put_framed : (info : ℕ → Option PageInfo) (page : ℕ) (new : Option PageInfo) → AreFramed info → IsFramedFor new → AreFramed (put info page new)
put_framed info page new h k = put_all (λ p o. IsFramedFor o) info page new k (λ p ne. h p)

-- ---- steps

-- over the slots that the step leaves
left_framed : (info : ℕ → Option PageInfo) (v : World) → v.slots.info ≡ info → AreFramed info → AreFramed v.slots.info
left_framed info v e h = subst AreFramed (sym e) h

goes_framed : (w : World) (c : ℕ) (v : World) → IsWellFormed w → AreFramed w.slots.info → GoesBy w c v → AreFramed v.slots.info
goes_framed w c v f k (moves new m h) = left_framed _ v (ap (λ (v : World). v.slots.info) h) k
goes_framed w c v f k (divides goal cursor t e s h) = left_framed _ v (ap (λ (v : World). v.slots.info) h ∙ s.divides.2.info) k
goes_framed w c v f k (cuts place target range t e s h) = left_framed _ v (ap (λ (v : World). v.slots.info) h ∙ s.divides.2.info) k
goes_framed w c v f k (fits place target range e i h) = left_framed _ v (ap (λ (v : World). v.slots.info) h) k
goes_framed w c v f k (owns goal cursor b t e l h) = left_framed _ v (ap (λ (v : World). v.slots.info) h ∙ ap (λ (s : Slots). s.info) l.now) k
goes_framed w c v f k (lets_go held b t new l u h) = left_framed _ v (ap (λ (v : World). v.slots.info) h ∙ ap (λ (s : Slots). s.info) u.now) k
goes_framed w c v f k (answers held reply r h) = left_framed _ v (ap (λ (v : World). v.slots.info) h) k
goes_framed w c v f k (posts change shoot e h) = left_framed _ v (ap (λ (v : World). v.slots.info) h) k
goes_framed w c v f k (commits goal change counts e n l h) =
    left_framed _ v (ap (λ (v : World). v.slots.info) h)
    (changed_all (λ p o. IsFramedFor o) w.slots change (λ r meta p e i c h. absurd (let a = members-empty c in cc (a, h)))
    (λ p c h. absurd cc) (λ prot p old. protected_framed (w.slots.info p) prot) k)
goes_framed w c v f k (takes touch old x e l h) = left_framed _ v (ap (λ (v : World). v.slots.info) h) k
goes_framed w c v f k (zeroes touch x counts e b t h) =
    left_framed _ v (ap (λ (v : World). v.slots.info) h) (put_framed w.slots.info touch.page _ k (filled_framed x (w.slots.info touch.page)))
goes_framed w c v f k (first_copies touch x counts e b t h) =
    left_framed _ v (ap (λ (v : World). v.slots.info) h) (put_framed w.slots.info touch.page _ k (filled_framed x (w.slots.info touch.page)))
goes_framed w c v f k (caches touch x counts e s n t h) =
    left_framed _ v (ap (λ (v : World). v.slots.info) h) (put_framed w.slots.info touch.page _ k (filled_framed x (w.slots.info touch.page)))
goes_framed w c v f k (shares touch own x counts e s n t h) =
    left_framed _ v (ap (λ (v : World). v.slots.info) h) (put_framed w.slots.info touch.page _ k (filled_framed x (w.slots.info touch.page)))
goes_framed w c v f k (posts_copy touch x e h) = left_framed _ v (ap (λ (v : World). v.slots.info) h) k
goes_framed w c v f k (copies touch x g counts e n a t h) =
    left_framed _ v (ap (λ (v : World). v.slots.info) h) (put_framed w.slots.info touch.page _ k (copied_framed x (w.slots.info touch.page)))
goes_framed w c v f k (installs touch e h) =
    let its : IsCallOf w c (Install touch) = call_at w c (Install touch) e f.order in
    left_framed _ v (ap (λ (v : World). v.slots.info) h)
    (put_framed w.slots.info touch.page _ k (with_core_framed c w.made.file touch.access its.ready.0 (w.slots.info touch.page) its.ready.1))
goes_framed w c v f k (accesses touch x e i h) = left_framed _ v (ap (λ (v : World). v.slots.info) h) k
goes_framed w c v f k (faults touch e i h) = left_framed _ v (ap (λ (v : World). v.slots.info) h) k

works_framed : (w : World) (c : ℕ) (e : Event) (v : World) → AreFramed w.slots.info → Works w c e v → AreFramed v.slots.info
works_framed w c e v k (clears i range a h) = left_framed _ v (ap (λ (v : World). v.slots.info) h) k
works_framed w c e v k (invalidates i range a h) = left_framed _ v (ap (λ (v : World). v.slots.info) h) k
works_framed w c e v k (walks p i a h) = left_framed _ v (ap (λ (v : World). v.slots.info) h) k
works_framed w c e v k (evicts p i a h) = left_framed _ v (ap (λ (v : World). v.slots.info) h) k
works_framed w c e v k (flushes i report counts t h) = left_framed _ v (ap (λ (v : World). v.slots.info) h) k
works_framed w c e v k (reviews i report counts t h) = left_framed _ v (ap (λ (v : World). v.slots.info) h) k
works_framed w c e v k (frees i x counts t h) = left_framed _ v (ap (λ (v : World). v.slots.info) h) k

shape_framed : (w : World) (e : Event) (o : Outcome) (v : World) → IsWellFormed w → AreFramed w.slots.info → Shape w e o v → AreFramed v.slots.info
shape_framed w e o v f k (rests i h) = left_framed _ v (ap (λ (v : World). v.slots.info) h) k
shape_framed w e o v f k (begins c request i s lt p below h) = left_framed _ v (ap (λ (v : World). v.slots.info) h) k
shape_framed w e o v f k (ends c reply i s lt p h) = left_framed _ v (ap (λ (v : World). v.slots.info) h) k
shape_framed w e o v f k (goes c i s lt g) = goes_framed w c v f k g
shape_framed w e o v f k (aims c place target a s lt p h) = left_framed _ v (ap (λ (v : World). v.slots.info) h) k
shape_framed w e o v f k (gives_up c i s lt can u h) = left_framed _ v (ap (λ (v : World). v.slots.info) h) k
shape_framed w e o v f k (works c s lt g) = works_framed w c e v k g
shape_framed w e o v f k (joins p t i s page j m h) = left_framed _ v (ap (λ (v : World). v.slots.info) h ∙ j.info) k

step_framed : (w : World) (e : Event) (o : Outcome) (v : World) → IsWellFormed w → AreFramed w.slots.info → Comes w e o v → AreFramed v.slots.info
step_framed w e o v f k (stopped n i h) = left_framed _ v (ap (λ (v : World). v.slots.info) h) k
step_framed w e o v f k (happens n h) = shape_framed (with_event w) e o v f k h

-- ---- runs

run_framed : (w : World) (es : List Event) (os : List Outcome) (v : World) → IsWellFormed w → AreFramed w.slots.info → Run w es os v → AreFramed v.slots.info
run_framed w [] [] v f k r = left_framed _ v (ap (λ (v : World). v.slots.info) r) k
run_framed w (e ∷ es) (o ∷ os) v f k r =
    run_framed r.0 es os v (fine_step w r.0 e o f r.1).0 (step_framed w e o r.0 f k (comes w e o r.0 r.1)) r.2
run_framed w [] (o ∷ os) v f k r = absurd r
run_framed w (e ∷ es) [] v f k r = absurd r

pub reached_framed : (w : World) → IsReached w → AreFramed w.slots.info
reached_framed w h =
    run_framed (new_world h.made h.slots) h.events h.outcomes w (fine_opening h.made h.slots h.few h.new)
    (λ p c e. absurd (let a = ap (λ o. is_recorded o c) (h.new.unmapped p) in cc)) h.run
