-- What steps keep: what the machine was made with, which calls were begun, unless one begins, where slots begin, unless some are joined, and what pages have
-- that the step doesn't change. Events only rise.
use Rattle.machine_model.proofs.Words.{◌≡◌, ◌≢◌, ℕ, ◌≤◌, true, false, refl, sym, ap, ◌∙◌, subst, arith, Option, nat_tests, PageInfo, PageRange, Request, has}
use Rattle.machine_model.proofs.Words.{put, put_other, Change, Touch, Slots, page_of_touch, some_has, World, Step, with_event}
use Rattle.machine_model.specs.declared.event.Event.{Event}
use Rattle.machine_model.specs.declared.event.Event.TheVariants.{Call, Go}
use Rattle.machine_model.specs.declared.event.Outcome.{Outcome}
use Rattle.machine_model.specs.declared.phase.Phase.{Phase}
use Rattle.slot_lock.specs.Changes.{changed}
use Rattle.machine_model.specs.declared.event.Event.TheVariants.{Fold}
use Rattle.machine_model.proofs.Changed.{changed_edge, same_outside}
use Rattle.machine_model.proofs.Shapes.{Shape, rests, begins, ends, goes, aims, gives_up, works, joins, Comes, stopped, acts, comes}
use Rattle.machine_model.proofs.Shapes.{GoesBy, moves, divides, cuts, fits, owns, lets_go, answers, posts, commits, takes, zeroes, first_copies}
use Rattle.machine_model.proofs.Shapes.{caches, shares, posts_copy, copies, installs, accesses, faults, IsGoing, going, picking}
use Rattle.machine_model.proofs.Shapes.{Works, clears, invalidates, walks, evicts, flushes, reviews, frees}
use Rattle.core_steps.specs.Changing.{changes_in, may_change, AllStepsKeepOtherPages}

-- slots that begin go on beginning there
abbrev Stay : Slots → Slots → Type 0
Stay s t = (p : ℕ) → s.edge p ≡ true → t.edge p ≡ true

pub changed_edges : (s : Slots) (change : Change) → (changed s change).edge ≡ s.edge
changed_edges s change = changed_edge s change

-- ---- a call that goes on, or a core that works beside its call, where pages of this range alone may change

record Leaves (r : Option PageRange) (w v : World) : Type 0 where
  pub made : v.made ≡ w.made
  pub events : v.calls.events ≡ w.calls.events
  pub requests : v.calls.requests ≡ w.calls.requests
  pub edges : Stay w.slots v.slots
  pub info : (p : ℕ) → some_has r p ≡ false → v.slots.info p ≡ w.slots.info p

abbrev AsWas : World → World → Type 0
AsWas w x = (x.made ≡ w.made) × (x.calls.events ≡ w.calls.events) × (x.calls.requests ≡ w.calls.requests)

left : (r : Option PageRange) (w v x : World) → v ≡ x → AsWas w x → Stay w.slots x.slots → ((p : ℕ) → some_has r p ≡ false → x.slots.info p ≡ w.slots.info p)
    → Leaves r w v
left r w v x e same edges info =
    subst (Leaves r w) (sym e) (record { made = same.0; events = same.1; requests = same.2; edges = edges; info = info })

-- no page changes, and no slot is divided
alike : (r : Option PageRange) (w v x : World) → v ≡ x → AsWas w x → x.slots.edge ≡ w.slots.edge → x.slots.info ≡ w.slots.info → Leaves r w v
alike r w v x e same edges info = left r w v x e same (λ p b. ap (λ f. f p) edges ∙ b) (λ p o. ap (λ f. f p) info)

-- a page outside of what a call in this phase may change
outside : (w : World) (c : ℕ) (phase : Phase) (p : ℕ) → w.calls.phase c ≡ phase → some_has (changes_in (w.calls.phase c)) p ≡ false
    → some_has (changes_in phase) p ≡ false
outside w c phase p e h = subst (λ x. some_has (changes_in x) p ≡ false) e h

put_keeps : (s : ℕ → Option PageInfo) (touch : Touch) (info : Option PageInfo) (p : ℕ) → has (page_of_touch touch) p ≡ false
    → put s touch.page info p ≡ s p
put_keeps s touch info p h = put_other s touch.page info p (grind (arith, nat_tests))

goes_on : (w : World) (c : ℕ) (v : World) → GoesBy w c v → Leaves (changes_in (w.calls.phase c)) w v
goes_on w c v (moves new m h) = alike _ w v _ h (refl, refl, refl) refl refl
goes_on w c v (divides goal cursor t e s h) =
    left _ w v _ h (refl, refl, refl) s.divides.2.kept (λ p o. ap (λ f. f p) s.divides.2.info)
goes_on w c v (cuts place target range t e s h) =
    left _ w v _ h (refl, refl, refl) s.divides.2.kept (λ p o. ap (λ f. f p) s.divides.2.info)
goes_on w c v (fits place target range e cut h) = alike _ w v _ h (refl, refl, refl) refl refl
goes_on w c v (owns goal cursor b t e l h) =
    alike _ w v _ h (refl, refl, refl) (ap (λ (s : Slots). s.edge) l.now) (ap (λ (s : Slots). s.info) l.now)
goes_on w c v (lets_go held b t new l u h) =
    alike _ w v _ h (refl, refl, refl) (ap (λ (s : Slots). s.edge) u.now) (ap (λ (s : Slots). s.info) u.now)
goes_on w c v (answers held reply r h) = alike _ w v _ h (refl, refl, refl) refl refl
goes_on w c v (posts change shoot e h) = alike _ w v _ h (refl, refl, refl) refl refl
goes_on w c v (commits goal change counts e n l h) =
    left _ w v _ h (refl, refl, refl) (λ p b. ap (λ f. f p) (changed_edges w.slots change) ∙ b) (λ p o. same_outside w.slots change p (outside w c _ p e o))
goes_on w c v (takes touch old f e l h) = alike _ w v _ h (refl, refl, refl) refl refl
goes_on w c v (zeroes touch f counts e b t h) =
    left _ w v _ h (refl, refl, refl) (λ p b. b) (λ p o. put_keeps w.slots.info touch _ p (outside w c _ p e o))
goes_on w c v (first_copies touch f counts e b t h) =
    left _ w v _ h (refl, refl, refl) (λ p b. b) (λ p o. put_keeps w.slots.info touch _ p (outside w c _ p e o))
goes_on w c v (caches touch f counts e s n t h) =
    left _ w v _ h (refl, refl, refl) (λ p b. b) (λ p o. put_keeps w.slots.info touch _ p (outside w c _ p e o))
goes_on w c v (shares touch own x counts e s i t h) =
    left _ w v _ h (refl, refl, refl) (λ p b. b) (λ p o. put_keeps w.slots.info touch _ p (outside w c _ p e o))
goes_on w c v (posts_copy touch f e h) = alike _ w v _ h (refl, refl, refl) refl refl
goes_on w c v (copies touch f x counts e n at t h) =
    left _ w v _ h (refl, refl, refl) (λ p b. b) (λ p o. put_keeps w.slots.info touch _ p (outside w c _ p e o))
goes_on w c v (installs touch e h) =
    left _ w v _ h (refl, refl, refl) (λ p b. b) (λ p o. put_keeps w.slots.info touch _ p (outside w c _ p e o))
goes_on w c v (accesses touch f e i h) = alike _ w v _ h (refl, refl, refl) refl refl
goes_on w c v (faults touch e i h) = alike _ w v _ h (refl, refl, refl) refl refl

works_on : (r : Option PageRange) (w : World) (c : ℕ) (e : Event) (v : World) → Works w c e v → Leaves r w v
works_on r w c e v (clears i range a h) = alike r w v _ h (refl, refl, refl) refl refl
works_on r w c e v (invalidates i range a h) = alike r w v _ h (refl, refl, refl) refl refl
works_on r w c e v (walks p i a h) = alike r w v _ h (refl, refl, refl) refl refl
works_on r w c e v (evicts p i a h) = alike r w v _ h (refl, refl, refl) refl refl
works_on r w c e v (flushes i report counts t h) = alike r w v _ h (refl, refl, refl) refl refl
works_on r w c e v (reviews i report counts t h) = alike r w v _ h (refl, refl, refl) refl refl
works_on r w c e v (frees i f counts t h) = alike r w v _ h (refl, refl, refl) refl refl

-- ---- any event

record Keeps (w : World) (e : Event) (v : World) : Type 0 where
  pub made : v.made ≡ w.made
  pub events : w.calls.events ≤ v.calls.events
  pub requests : ((c : ℕ) (request : Request) → e ≢ Call c request) → v.calls.requests ≡ w.calls.requests
  pub edges : ((p : ℕ) → e ≢ Fold p) → Stay w.slots v.slots
  pub info : (p : ℕ) → some_has (may_change w e) p ≡ false → v.slots.info p ≡ w.slots.info p

by_call : (w : World) (e : Event) (v : World) → Leaves (may_change w e) w v → Keeps w e v
by_call w e v k = record {
  made = k.made;
  events = let same = k.events in omega (arith, same);
  requests = λ n. k.requests;
  edges = λ n. k.edges;
  info = k.info;
}

goes_by : (w : World) (c : ℕ) (e : Event) (v : World) → IsGoing c e → GoesBy w c v → Leaves (may_change w e) w v
goes_by w c e v going g = goes_on w c v g
goes_by w c e v (picking f) g = goes_on w c v g

-- but for a call that begins, and for slots that are joined, it is one of those
other : (w : World) (e : Event) (v x : World) → v ≡ x → x.made ≡ w.made → x.calls.events ≡ w.calls.events → x.slots.info ≡ w.slots.info
    → (((c : ℕ) (request : Request) → e ≢ Call c request) → x.calls.requests ≡ w.calls.requests) → (((p : ℕ) → e ≢ Fold p) → Stay w.slots x.slots) → Keeps w e v
other w e v x h made events info requests edges = subst (Keeps w e) (sym h) (record {
  made = made;
  events = omega (arith, events);
  requests = requests;
  edges = edges;
  info = λ p o. ap (λ f. f p) info;
})

shape_keeps : (w : World) (e : Event) (o : Outcome) (v : World) → Shape w e o v → Keeps w e v
shape_keeps w e o v (rests r h) = by_call w e v (alike _ w v _ h (refl, refl, refl) refl refl)
shape_keeps w e o v (begins c request i j lt free few h) = other w e v _ h refl refl refl (λ n. absurd (n c request i)) (λ n p b. b)
shape_keeps w e o v (ends c reply i j lt at h) = by_call w e v (alike _ w v _ h (refl, refl, refl) refl refl)
shape_keeps w e o v (goes c i j lt g) = by_call w e v (goes_by w c e v i g)
shape_keeps w e o v (aims c place target i j lt at h) = by_call w e v (alike _ w v _ h (refl, refl, refl) refl refl)
shape_keeps w e o v (gives_up c i j lt can un h) = by_call w e v (alike _ w v _ h (refl, refl, refl) refl refl)
shape_keeps w e o v (works c j lt k) = by_call w e v (works_on _ w c e v k)
shape_keeps w e o v (joins p t i j page join is h) = other w e v _ h refl refl join.info (λ n. refl) (λ n. absurd (n p i))

step_keeps : (w : World) (e : Event) (o : Outcome) (v : World) → Step w e o v → Keeps w e v
step_keeps w e o v s = go (comes w e o v s)
  where
    go : Comes w e o v → Keeps w e v
    go (stopped i inner h) = by_call w e v (alike _ w v _ h (refl, refl, refl) refl refl)
    go (acts i shape) =
        let k = shape_keeps (with_event w) e o v shape in
        let events = k.events in
        record { made = k.made; events = omega (arith, events); requests = k.requests; edges = k.edges; info = k.info }

-- ---- what others need of it

pub keeps : AllStepsKeepOtherPages
keeps w v e o s = (step_keeps w e o v s).info

pub step_made : (w : World) (e : Event) (o : Outcome) (v : World) → Step w e o v → v.made ≡ w.made
step_made w e o v s = (step_keeps w e o v s).made

pub step_grows : (w : World) (e : Event) (o : Outcome) (v : World) → Step w e o v → w.calls.events ≤ v.calls.events
step_grows w e o v s = (step_keeps w e o v s).events

-- a call that goes on begins none
pub go_requests : (w : World) (c : ℕ) (o : Outcome) (v : World) → Step w (Go c) o v → v.calls.requests ≡ w.calls.requests
go_requests w c o v s = (step_keeps w (Go c) o v s).requests (λ d request e. cc)

-- and slots that began go on beginning there, if none are joined
pub stays : (w : World) (e : Event) (o : Outcome) (v : World) → ((p : ℕ) → e ≢ Fold p) → Step w e o v → (p : ℕ) → w.slots.edge p ≡ true → v.slots.edge p ≡ true
stays w e o v no_fold s = (step_keeps w e o v s).edges no_fold
