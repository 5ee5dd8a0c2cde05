-- Each step from a well state leaves a well one, and so each reached state is well.
use Rattle.machine_model.proofs.Words.{◌≡◌, ℕ, ◌<◌, ◌≤◌, arith, true, refl, sym, ap, subst, Some, Option, List, [], ◌∷◌, ◌++◌, inl, PageRange, Reply, Refused}
use Rattle.machine_model.proofs.Words.{NoMemory, Request, nothing_mapped, Slots, IsNew, Event, GiveUp, Outcome, Put, Phase, Free, Check, Find}
use Rattle.machine_model.proofs.Words.{Decide, Acks, Unlock, Answer, CopyAcks, after_reply}
use Rattle.machine_model.proofs.Words.{after_frame, taken_for, after_copy_post, after_post, with_counts, with_free, after_give_up, given_back, taken_in}
use Rattle.machine_model.proofs.Words.{still_held, can_give_up, locking, locked_to, trying, after_translating, World, Made, new_world, after_call, with_event}
use Rattle.machine_model.proofs.Words.{Step, Run, nth}
use Rattle.slot_lock.specs.declared.plan.Goal.TheVariants as To
use Rattle.machine_model.proofs.Kept.{kept as order_kept}
use Rattle.machine_model.proofs.Moves.{IsCallOf, call_at}
use Rattle.machine_model.specs.Orderly.{IsAsked}
use Rattle.machine_model.proofs.Shapes.{Replies, refuses, no_place, declines, fails, no_frame, GoesBy, moves, divides, cuts, fits, owns, lets_go}
use Rattle.machine_model.proofs.Shapes.{answers, posts, commits, takes, zeroes, first_copies, caches, shares, posts_copy, copies, installs, accesses}
use Rattle.machine_model.proofs.Shapes.{faults, Works, clears, invalidates, walks, evicts, flushes, reviews, frees, Shape, rests, begins, ends, goes}
use Rattle.machine_model.proofs.Shapes.{aims, gives_up, works, joins, Comes, stopped, acts as happens, comes}
use Rattle.machine_model.proofs.CoherenceKept.{coherence_kept}
use Rattle.machine_model.proofs.CountsKept.{counted_kept}
use Rattle.machine_model.specs.Sound.{IsReached, IsSoundState, IsSoundStep, Notes, SoundRun}
use Rattle.machine_model.specs.Invariant.{IsWellFormed}
use Rattle.machine_model.proofs.CountsKept.{unused_no_page}
use Rattle.machine_model.proofs.Accesses.{access_made, fault_told, no_frame_told, core_installed}
use Rattle.machine_model.proofs.Fills.{page_zeroed, page_first_copied, page_cached, page_shared, page_copied}
use Rattle.machine_model.proofs.Commits.{change_committed}
use Rattle.machine_model.proofs.Logs.{replays_requests}
use Rattle.machine_model.proofs.SoundMoves as left
use Rattle.machine_model.proofs.SoundMoves.{IsShown, shown, Leaves, stays, shows_same, with_memory, goes_on, beside}
use Rattle.machine_model.proofs.Freeing.{frees_only, blocked}
use Rattle.machine_model.proofs.Resting.{idle_step, full_step, stays_step}
use Rattle.machine_model.proofs.SoundOpening.{fine_opening}
use Rattle.machine_model.proofs.Replies.{due_so, refused, declined}
use Rattle.machine_model.proofs.Sound.{fine_sound}

-- ---- the shapes

replies_left : (w : World) (event : Event) (c : ℕ) (held : Option PageRange) (reply : Reply) → c < 64 → (f : IsShown w) → Replies w c held reply
    → Leaves w f.plain event (after_reply c held reply w)
replies_left w event c held reply few f (refuses request e h k) =
    let number = (call_at w c (Check request) e f.order).asked in
    let z = refused w f.plain c request reply f.good k in
    left.answers w event c held reply f request number z.1 (due_so event w.memory.is_free w.calls.events (w.calls.number c) c reply z.0)
replies_left w event c held reply few f (no_place place target errno e h r d) =
    let k : IsCallOf w c (Find place target) = call_at w c (Find place target) e f.order in
    subst (λ y. Leaves w f.plain event (after_reply c held y w)) (sym r)
    (left.answers w event c held (Refused errno) f k.asked.request k.asked.number
    (declined w f.plain c k.asked.request (To.Place place target) errno f.good
    (record { few = few; passed = k.asked.passed; target = k.ready; none = tt }) d) tt)
replies_left w event c held reply few f (declines change errno e h r d) =
    let k : IsCallOf w c (Decide change) = call_at w c (Decide change) e f.order in
    subst (λ y. Leaves w f.plain event (after_reply c held y w)) (sym r)
    (left.answers w event c held (Refused errno) f k.asked.request k.asked.number
    (declined w f.plain c k.asked.request (To.Change change) errno f.good
    (record { few = few; passed = k.asked.passed; target = tt; none = tt }) d) tt)
replies_left w event c held reply few f (fails touch e h x) = fault_told w event c touch held reply e x f
replies_left w event c held reply few f (no_frame touch old e h r none) =
    subst (λ y. Leaves w f.plain event (after_reply c held y w)) (sym r) (no_frame_told w event c touch old held e none f)

goes_left : (w : World) (event : Event) (c : ℕ) (v : World) → c < 64 → (f : IsShown w) → GoesBy w c v → Leaves w f.plain event v
goes_left w event c v few f (moves new m h) = subst (Leaves w f.plain event) (sym h) (goes_on w event c new w.slots w.hardware w.memory f f.good)
goes_left w event c v few f (divides goal cursor t e s h) =
    subst (Leaves w f.plain event) (sym h) (beside w event t w.hardware w.memory f (shows_same w f.plain t.info s.divides.2.info f.good))
goes_left w event c v few f (cuts place target range t e s h) =
    subst (Leaves w f.plain event) (sym h) (beside w event t w.hardware w.memory f (shows_same w f.plain t.info s.divides.2.info f.good))
goes_left w event c v few f (fits place target range e i h) =
    subst (Leaves w f.plain event) (sym h) (goes_on w event c (Acks (To.Place place target) (Put range place.meta)) w.slots w.hardware w.memory f f.good)
goes_left w event c v few f (owns goal cursor b t e l h) =
    subst (Leaves w f.plain event) (sym h)
    (goes_on w event c (locked_to goal b) t w.hardware w.memory f (shows_same w f.plain t.info (ap (λ (x : Slots). x.info) l.now) f.good))
goes_left w event c v few f (lets_go held b t new l u h) =
    subst (Leaves w f.plain event) (sym h)
    (goes_on w event c new t w.hardware w.memory f (shows_same w f.plain t.info (ap (λ (x : Slots). x.info) u.now) f.good))
goes_left w event c v few f (answers held reply r h) = subst (Leaves w f.plain event) (sym h) (replies_left w event c held reply few f r)
goes_left w event c v few f (posts change shoot e h) =
    subst (Leaves w f.plain event) (sym h)
    (goes_on w event c (Acks (To.Change change) change) w.slots (after_post c change shoot w).hardware w.memory f f.good)
goes_left w event c v few f (commits goal change counts e n l h) =
    subst (Leaves w f.plain event) (sym h) (change_committed w event c goal change counts few e f)
goes_left w event c v few f (takes touch old x e l h) =
    subst (Leaves w f.plain event) (sym h)
    (goes_on w event c (taken_for touch old x) w.slots w.hardware (after_frame c touch old x w).memory f (with_memory w f.plain f.good))
goes_left w event c v few f (zeroes touch x counts e b t h) = subst (Leaves w f.plain event) (sym h) (page_zeroed w event c touch x counts e b f)
goes_left w event c v few f (first_copies touch x counts e b t h) = subst (Leaves w f.plain event) (sym h) (page_first_copied w event c touch x counts e b f)
goes_left w event c v few f (caches touch x counts e s n t h) = subst (Leaves w f.plain event) (sym h) (page_cached w event c touch x counts e s n f)
goes_left w event c v few f (shares touch own x counts e s i t h) = subst (Leaves w f.plain event) (sym h) (page_shared w event c touch own x counts e s i f)
goes_left w event c v few f (posts_copy touch x e h) =
    subst (Leaves w f.plain event) (sym h)
    (goes_on w event c (CopyAcks touch x) w.slots (after_copy_post c touch x w).hardware w.memory f f.good)
goes_left w event c v few f (copies touch x g counts e n at t h) = subst (Leaves w f.plain event) (sym h) (page_copied w event c touch x g counts e at f)
goes_left w event c v few f (installs touch e h) = subst (Leaves w f.plain event) (sym h) (core_installed w event c touch f)
goes_left w event c v few f (accesses touch x e i h) = subst (Leaves w f.plain event) (sym h) (access_made w event c touch x e i f)
goes_left w event c v few f (faults touch e i h) =
    subst (Leaves w f.plain event) (sym h)
    (goes_on w event c (locking (To.Access touch)) w.slots (after_translating w.hardware c touch) w.memory f f.good)

works_left : (w : World) (event : Event) (c : ℕ) (v : World) → (f : IsShown w) → Works w c event v → Leaves w f.plain event v
works_left w event c v f (clears i range k h) = subst (Leaves w f.plain event) (sym h) (beside w event w.slots _ w.memory f f.good)
works_left w event c v f (invalidates i range k h) = subst (Leaves w f.plain event) (sym h) (beside w event w.slots _ w.memory f f.good)
works_left w event c v f (walks p i k h) = subst (Leaves w f.plain event) (sym h) (beside w event w.slots _ w.memory f f.good)
works_left w event c v f (evicts p i k h) = subst (Leaves w f.plain event) (sym h) (beside w event w.slots _ w.memory f f.good)
works_left w event c v f (flushes i report counts t h) =
    subst (Leaves w f.plain event) (sym h) (beside w event w.slots w.hardware (with_counts counts w).memory f (with_memory w f.plain f.good))
works_left w event c v f (reviews i report counts t h) =
    subst (Leaves w f.plain event) (sym h) (beside w event w.slots w.hardware (with_counts counts w).memory f (with_memory w f.plain f.good))
works_left w event c v f (frees i x counts t h) =
    subst (Leaves w f.plain event) (sym h)
    (beside w event w.slots w.hardware (with_free x (with_counts counts w)).memory f (with_memory w f.plain f.good))

-- a call begins
begun : (w : World) (event : Event) (c : ℕ) (request : Request) (f : IsShown w) → Leaves w f.plain event (after_call c request w)
begun w event c request f = record {
  plain = f.plain;
  good = f.good;
  leads = inl (refl, refl);
  log = λ h. replays_requests w.calls.requests request w.calls.log (nothing_mapped w.made.file) f.plain h;
  notes = inl refl;
}

-- a call that may be given up has a request
its_request : (made : Made) (requests : List Request) (c call : ℕ) (phase : Phase) → can_give_up phase ≡ true → IsAsked made requests c call phase
    → (request : Request) × (nth requests call ≡ Some request)
its_request made requests c call (Check request) can h = (request, h)
its_request made requests c call Free can h = absurd cc
its_request made requests c call (Acks goal change) can h = absurd cc
its_request made requests c call (Unlock held reply) can h = absurd cc
its_request made requests c call (Answer reply) can h = absurd cc
its_request made requests c call _ can h = (h.request, h.number)

given_up : (w : World) (c : ℕ) (f : IsShown w) → can_give_up (w.calls.phase c) ≡ true → Leaves w f.plain (GiveUp c) (after_give_up c (w.calls.phase c) w)
given_up w c f can =
    let r = its_request w.made w.calls.requests c (w.calls.number c) (w.calls.phase c) can (f.order.asked c) in
    left.tells w (GiveUp c) c (still_held (w.calls.phase c)) NoMemory w.slots w.hardware
    (record w.memory { is_free = given_back (taken_in (w.calls.phase c)) w.memory.is_free }) f f.plain r.0 r.1 refl refl (with_memory w f.plain f.good)

pub shape_left : (w : World) (e : Event) (o : Outcome) (v : World) (f : IsShown w) → Shape w e o v → Leaves w f.plain e v
shape_left w e o v f (rests i h) = subst (Leaves w f.plain e) (sym h) (stays w e f)
shape_left w e o v f (begins c request i s lt p below h) = subst (Leaves w f.plain e) (sym h) (begun w e c request f)
shape_left w e o v f (ends c reply i s lt p h) = subst (Leaves w f.plain e) (sym h) (goes_on w e c Free w.slots w.hardware w.memory f f.good)
shape_left w e o v f (goes c i s lt g) = goes_left w e c v (let few = f.order.few in omega (arith, lt, few)) f g
shape_left w e o v f (aims c place target a s lt p h) =
    subst (Leaves w f.plain e) (sym h) (goes_on w e c (trying place target) w.slots w.hardware w.memory f f.good)
shape_left w e o v f (gives_up c i s lt can u h) =
    subst (Leaves w f.plain e) (sym h) (subst (λ e. Leaves w f.plain e (after_give_up c (w.calls.phase c) w)) (sym i) (given_up w c f can))
shape_left w e o v f (works c s lt k) = works_left w e c v f k
shape_left w e o v f (joins p t i s page j m h) =
    subst (Leaves w f.plain e) (sym h) (beside w e t w.hardware w.memory f (shows_same w f.plain t.info j.info f.good))

-- ---- a step

-- Each step from a well state leaves a well one, and its entry, if it makes one, has its number and was due. (Nothing of this looks at
-- the number of events.)
pub fine_step : (w v : World) (e : Event) (o : Outcome) → IsWellFormed w → Step w e o v → IsWellFormed v × Notes w e v
fine_step w v e o f s = go (comes w e o v s)
  where
    its : IsShown w
    its = shown w f

    whole : Leaves w f.plain e v → IsWellFormed v × Notes w e v
    whole l = (
      record {
        order = order_kept w v e o f.order s;
        coherent = coherence_kept w v e o f.order (λ c x p mine. unused_no_page w f.order f.counted x p (f.counted.taken c x mine)) f.coherent s;
        counted = counted_kept w v e o f.order f.counted s;
        plain = l.plain;
        log = l.log f.log;
        good = l.good;
      },
      l.notes,
    )

    uncounted : Leaves (with_event w) f.plain e v → Leaves w f.plain e v
    uncounted l = record { plain = l.plain; good = l.good; leads = l.leads; log = l.log; notes = l.notes }

    go : Comes w e o v → IsWellFormed v × Notes w e v
    go (stopped n i h) = whole (subst (Leaves w f.plain e) (sym h) (stays w e its))
    go (happens n h) = whole (uncounted (shape_left (with_event w) e o v (shown (with_event w) f) h))

-- the step is sound
pub sound_step : (w v : World) (e : Event) (o : Outcome) → IsWellFormed w → Step w e o v → IsSoundStep w e o v
sound_step w v e o f s = record {
  notes = (fine_step w v e o f s).1;
  frees = frees_only w v e o s;
  blocked = blocked w v e o f.order s;
  idle = idle_step w e o v s;
  full = full_step w e o v s;
  stays = stays_step w e o v s;
}

-- ---- runs

fine_run : (w : World) (es : List Event) (os : List Outcome) (v : World) → IsWellFormed w → Run w es os v → IsWellFormed v
fine_run w [] [] v f r = subst IsWellFormed (sym r) f
fine_run w (e ∷ es) (o ∷ os) v f r = fine_run r.0 es os v (fine_step w r.0 e o f r.1).0 r.2
fine_run w _ _ v f r = absurd r

pub reached_fine : (w : World) → IsReached w → IsWellFormed w
reached_fine w h = fine_run (new_world h.made h.slots) h.events h.outcomes w (fine_opening h.made h.slots h.few h.new) h.run

pub reached_sound : (w : World) → IsReached w → IsSoundState w
reached_sound w h = fine_sound w (reached_fine w h)

pub steps_sound : (w v : World) (e : Event) (o : Outcome) → IsReached w → Step w e o v → IsSoundStep w e o v
steps_sound w v e o h s = sound_step w v e o (reached_fine w h) s

-- a run that goes one event on
pub run_more : (es : List Event) (os : List Outcome) (w m v : World) (e : Event) (o : Outcome) → Run w es os m → Step m e o v
    → Run w (es ++ e ∷ []) (os ++ o ∷ []) v
run_more [] [] w m v e o r s = (v, subst (λ w. Step w e o v) r s, refl)
run_more (d ∷ es) (p ∷ os) w m v e o r s = (r.0, r.1, run_more es os r.0 m v e o r.2 s)
run_more _ _ w m v e o r s = absurd r

-- what a step from a reached state leaves is reached
pub reached_step : (w v : World) (e : Event) (o : Outcome) → IsReached w → Step w e o v → IsReached v
reached_step w v e o h s = record {
  made = h.made;
  few = h.few;
  slots = h.slots;
  events = h.events ++ e ∷ [];
  outcomes = h.outcomes ++ o ∷ [];
  new = h.new;
  run = run_more h.events h.outcomes (new_world h.made h.slots) w v e o h.run s;
}

pub reached_opening : (made : Made) (slots : Slots) → made.cores ≤ 64 → IsNew slots → IsReached (new_world made slots)
reached_opening made slots few new = record { made = made; few = few; slots = slots; events = []; outcomes = []; new = new; run = refl }

sound_run : (w : World) (es : List Event) (os : List Outcome) (v : World) → IsWellFormed w → Run w es os v → SoundRun w es os v
sound_run w [] [] v f r = (fine_sound w f, r)
sound_run w (e ∷ es) (o ∷ os) v f r =
    (fine_sound w f, (r.0, r.1, sound_step w r.0 e o f r.1, sound_run r.0 es os v (fine_step w r.0 e o f r.1).0 r.2))
sound_run w [] (o ∷ os) v f r = r
sound_run w (e ∷ es) [] v f r = r

pub runs_sound : (made : Made) (slots : Slots) (events : List Event) (outcomes : List Outcome) (w : World) → made.cores ≤ 64 → IsNew slots
    → Run (new_world made slots) events outcomes w → SoundRun (new_world made slots) events outcomes w
runs_sound made slots events outcomes w few new r = sound_run (new_world made slots) events outcomes w (fine_opening made slots few new) r
