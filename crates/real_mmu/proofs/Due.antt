-- Which step gives a page a new frame
use Rattle.real_mmu.proofs.Words.{CopyAcks, Event, Fill, Go, Outcome, Phase}
use Rattle.machine_model.specs.declared.event.Event.TheVariants.{Frame}
use Rattle.machine_model.proofs.Words.{◌≡◌, ◌≢◌, ℕ, refl, sym, ap, subst, ◌∙◌, Some, None, Option, PageInfo}
use Rattle.machine_model.proofs.Words.{put, put_all, frame_of, info_with_frame, info_with_copy, info_with_core, Slots, World, Step}
use Rattle.machine_model.proofs.Words.{with_event, back_of, file_frame, taken_in, goal_range, after_commit, after_install}
use Rattle.vm_base.specs.declared.info.Back.{Back}
use Rattle.vm_base.specs.declared.info.Back.TheVariants.{Anon, Shared, Private}
use Rattle.machine_model.proofs.CountsKept.{same_with_core}
use Rattle.machine_model.proofs.Commits.{fewer_frames}
use Rattle.machine_model.proofs.Fills.{nobodys, uncached, new_frame}
use Rattle.machine_model.specs.Sound.{IsReached}
use Rattle.machine_model.proofs.SoundKept.{reached_fine}
use Rattle.machine_model.proofs.SoundMoves.{IsShown, shown}
use Rattle.machine_model.proofs.Shapes.{GoesBy, moves, divides, cuts, fits, owns, lets_go, answers, posts, commits, takes, zeroes, first_copies, caches}
use Rattle.machine_model.proofs.Shapes.{shares, posts_copy, copies, installs, accesses, faults, Works, clears, invalidates, walks, evicts, flushes, reviews}
use Rattle.machine_model.proofs.Shapes.{frees, Shape, rests, begins, ends, goes, aims, gives_up, works, joins, IsGoing, going, picking, Comes, stopped}
use Rattle.machine_model.proofs.Shapes.{acts as happens, comes}
use Rattle.real_mmu.specs.Fills.{Fills, Due, due_in, due_at}

abbrev due : ℕ → ℕ → Option Due
due p f = Some (record { page = p; frame = f })

-- each page that has a frame had it before
none_new : (w v : World) (o : Option Due) → ((p f : ℕ) → frame_of (v.slots.info p) ≡ Some f → frame_of (w.slots.info p) ≡ Some f)
    → (p f : ℕ) → Fills w v p f → o ≡ due p f
none_new w v o old p f k = absurd (k.before (old p f k.now))

same_pages : (w v : World) (o : Option Due) → v.slots.info ≡ w.slots.info → (p f : ℕ) → Fills w v p f → o ≡ due p f
same_pages w v o same = none_new w v o (λ p f h. subst (λ info. frame_of (info p) ≡ Some f) same h)

-- a state that it is has the same pages
same_as : (w v x : World) (o : Option Due) → v ≡ x → x.slots.info ≡ w.slots.info → (p f : ℕ) → Fills w v p f → o ≡ due p f
same_as w v x o h same = same_pages w v o (ap (λ (y : World). y.slots.info) h ∙ same)

-- the page alone has now the frame, which was due
one_new : (w v x : World) (page f : ℕ) (new : Option PageInfo) (o : Option Due) → v ≡ x → x.slots.info ≡ put w.slots.info page new
    → ((y : ℕ) → frame_of new ≡ Some y → f ≡ y) → o ≡ due page f → (p g : ℕ) → Fills w v p g → o ≡ due p g
one_new w v x page f new o h is its at p g k =
    put_all (λ p i. frame_of i ≡ Some g → frame_of (w.slots.info p) ≢ Some g → o ≡ due p g) w.slots.info page new
    (λ y ne. at ∙ ap (due page) (its g y)) (λ q other y ne. absurd (ne y)) p
    (subst (λ info. frame_of (info p) ≡ Some g) (ap (λ (y : World). y.slots.info) h ∙ is) k.now) k.before

copied_frame : (f : ℕ) (o : Option PageInfo) (x : ℕ) → frame_of (info_with_copy f o) ≡ Some x → f ≡ x
copied_frame f None x h = absurd cc
copied_frame f (Some info) x h = cc

-- the page shows a frame that a file has
shared_old : (w v x : World) (page g : ℕ) (o : Option Due) → v ≡ x → x.slots.info ≡ put w.slots.info page (info_with_frame g (w.slots.info page))
    → file_frame w.memory.cached (back_of (w.slots.info page)) ≡ Some g → (p f : ℕ) → Fills w v p f → o ≡ due p f
shared_old w v x page g o h is at p f k =
    put_all (λ p i. frame_of i ≡ Some f → frame_of (w.slots.info p) ≢ Some f → o ≡ due p f) w.slots.info page (info_with_frame g (w.slots.info page))
    (λ y ne. absurd (filed (back_of (w.slots.info page)) at (subst (λ z. (n l : ℕ) → w.memory.cached n l ≢ Some z)
    (sym (new_frame g (w.slots.info page) f y)) k.uncached)))
    (λ q other y ne. absurd (ne y)) p (subst (λ info. frame_of (info p) ≡ Some f) (ap (λ (y : World). y.slots.info) h ∙ is) k.now) k.before
  where
    filed : (back : Back) → file_frame w.memory.cached back ≡ Some g → ((n k : ℕ) → w.memory.cached n k ≢ Some g) → ⊥
    filed Anon is none = cc
    filed (Shared n k) is none = none n k is
    filed (Private n k) is none = none n k is

goes_due : (w : World) (c : ℕ) (v : World) → GoesBy w c v → (p f : ℕ) → Fills w v p f → due_in (w.calls.phase c) ≡ due p f
goes_due w c v (moves a b h) = same_as w v _ _ h refl
goes_due w c v (divides a b d e f h) = same_as w v _ _ h f.divides.2.info
goes_due w c v (cuts a b d e f g h) = same_as w v _ _ h g.divides.2.info
goes_due w c v (fits a b d e f h) = same_as w v _ _ h refl
goes_due w c v (owns a b d e f g h) = same_as w v _ _ h (ap (λ (s : Slots). s.info) g.now)
goes_due w c v (lets_go a b d e f g h) = same_as w v _ _ h (ap (λ (s : Slots). s.info) g.now)
goes_due w c v (answers a b d h) = same_as w v _ _ h refl
goes_due w c v (posts a b d h) = same_as w v _ _ h refl
goes_due w c v (commits a b d e f g h) =
    subst (λ x. (p f : ℕ) → Fills w x p f → due_in (w.calls.phase c) ≡ due p f) (sym h)
    (none_new w (after_commit c b (goal_range a) d w) _ (fewer_frames w.slots b))
goes_due w c v (takes a b d e f h) = same_as w v _ _ h refl
goes_due w c v (zeroes a b d e f g h) =
    one_new w v _ a.page b (info_with_frame b (w.slots.info a.page)) _ h refl (new_frame b (w.slots.info a.page)) (ap due_in e)
goes_due w c v (first_copies a b d e f g h) =
    one_new w v _ a.page b (info_with_frame b (w.slots.info a.page)) _ h refl (new_frame b (w.slots.info a.page)) (ap due_in e)
goes_due w c v (caches a b d e f g i h) =
    one_new w v _ a.page b (info_with_frame b (w.slots.info a.page)) _ h refl (new_frame b (w.slots.info a.page)) (ap due_in e)
goes_due w c v (shares a b d e f g i j h) = shared_old w v _ a.page d _ h refl i
goes_due w c v (posts_copy a b d h) = same_as w v _ _ h refl
goes_due w c v (copies a b d e f g i j h) =
    one_new w v _ a.page b (info_with_copy b (w.slots.info a.page)) _ h refl (copied_frame b (w.slots.info a.page)) (ap due_in f)
goes_due w c v (installs a b h) =
    subst (λ x. (p f : ℕ) → Fills w x p f → due_in (w.calls.phase c) ≡ due p f) (sym h)
    (none_new w (after_install c a w) _ (λ p x.
    put_all (λ p o. frame_of o ≡ Some x → frame_of (w.slots.info p) ≡ Some x) w.slots.info a.page (info_with_core c (w.slots.info a.page))
    (λ k. sym (same_with_core c (w.slots.info a.page)) ∙ k) (λ p ne k. k) p))
goes_due w c v (accesses a b d e h) = same_as w v _ _ h refl
goes_due w c v (faults a b d h) = same_as w v _ _ h refl

works_due : (w : World) (c : ℕ) (e : Event) (v : World) → Works w c e v → (o : Option Due) (p f : ℕ) → Fills w v p f → o ≡ due p f
works_due w c e v (clears a b d h) o = same_as w v _ o h refl
works_due w c e v (invalidates a b d h) o = same_as w v _ o h refl
works_due w c e v (walks a b d h) o = same_as w v _ o h refl
works_due w c e v (evicts a b d h) o = same_as w v _ o h refl
works_due w c e v (flushes a b d f h) o = same_as w v _ o h refl
works_due w c e v (reviews a b d f h) o = same_as w v _ o h refl
works_due w c e v (frees a b d f h) o = same_as w v _ o h refl

going_due : (w x : World) (c : ℕ) (e : Event) (v : World) → IsGoing c e → x.calls.phase ≡ w.calls.phase → (p f : ℕ) → due_in (x.calls.phase c) ≡ due p f
    → due_at w e ≡ due p f
going_due w x c e v going same p f k = ap (λ phase. due_in (phase c)) (sym same) ∙ k
going_due w x c e v (picking g) same p f k = ap (λ phase. due_in (phase c)) (sym same) ∙ k

shape_due : (w : World) (e : Event) (o : Outcome) (v : World) → Shape (with_event w) e o v → (p f : ℕ) → Fills w v p f → due_at w e ≡ due p f
shape_due w e o v (rests i h) = same_as w v _ _ h refl
shape_due w e o v (begins a b d f g i j h) = same_as w v _ _ h refl
shape_due w e o v (ends a b d f g i h) = same_as w v _ _ h refl
shape_due w e o v (goes c i s lt g) = λ p f k.
    going_due w (with_event w) c e v i refl p f (goes_due (with_event w) c v g p f (record { now = k.now; before = k.before; uncached = k.uncached }))
shape_due w e o v (aims a b d f g i j h) = same_as w v _ _ h refl
shape_due w e o v (gives_up a b d f g i h) = same_as w v _ _ h refl
shape_due w e o v (works c s lt k) = λ p f l.
    works_due (with_event w) c e v k (due_at w e) p f (record { now = l.now; before = l.before; uncached = l.uncached })
shape_due w e o v (joins a b d f g i j h) = same_as w v _ _ h i.info

fills_due : (w : World) (e : Event) (o : Outcome) (v : World) → Comes w e o v → (p f : ℕ) → Fills w v p f → due_at w e ≡ due p f
fills_due w e o v (stopped n i h) = same_as w v w _ h refl
fills_due w e o v (happens n h) = shape_due w e o v h

-- what is due is no page's and no file's
abbrev frame_due : Option Due → Option ℕ
frame_due None = None
frame_due (Some d) = Some d.frame

due_taken : (phase : Phase) (p f : ℕ) → due_in phase ≡ due p f → taken_in phase ≡ Some f
due_taken (Fill touch (Some g)) p f h = ap frame_due h
due_taken (CopyAcks touch g) p f h = ap frame_due h
due_taken _ p f h = absurd cc

due_fills : (w v : World) (c p f : ℕ) → IsShown w → due_in (w.calls.phase c) ≡ due p f → frame_of (v.slots.info p) ≡ Some f → Fills w v p f
due_fills w v c p f fine h now = record {
  now = now;
  before = nobodys w f fine c (due_taken (w.calls.phase c) p f h) p;
  uncached = uncached w f fine c (due_taken (w.calls.phase c) p f h);
}

event_due : (w v : World) (e : Event) (p f : ℕ) → IsShown w → due_at w e ≡ due p f → frame_of (v.slots.info p) ≡ Some f → Fills w v p f
event_due w v (Go c) p f fine h now = due_fills w v c p f fine h now
event_due w v (Frame c g) p f fine h now = due_fills w v c p f fine h now
event_due w v _ p f fine h now = absurd cc

pub fills_are_due : (w v : World) (e : Event) (o : Outcome) → IsReached w → Step w e o v → (p f : ℕ)
    → (Fills w v p f → due_at w e ≡ Some (record { page = p; frame = f }))
    × (due_at w e ≡ Some (record { page = p; frame = f }) → frame_of (v.slots.info p) ≡ Some f → Fills w v p f)
fills_are_due w v e o reached s p f =
    (fills_due w e o v (comes w e o v s) p f, event_due w v e p f (shown w (reached_fine w reached)))
