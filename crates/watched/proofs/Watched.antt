-- Runs that are watched, one after another and step by step
use Rattle.machine_model.proofs.Words.{◌≡◌, ◌≢◌, ℕ, zero, suc, ◌+◌, ◌<◌, List, [], ◌∷◌, ◌++◌, refl, sym, ap, subst, Bool, Request}
use Rattle.machine_model.proofs.Words.{World, Step, StepsTo}
use Rattle.machine_model.specs.declared.event.Event.{Event}
use Rattle.machine_model.specs.declared.event.Event.TheVariants.{Call, Go}
use Rattle.machine_model.specs.declared.event.Outcome.{Outcome}
use Rattle.machine_model.specs.declared.event.Outcome.TheVariants.{Stepped, Wait, Idle, Answered, Full}
use Rattle.std.proofs.Common.{add-one}
use Rattle.std.specs.Prelude.{replicate}
use Rattle.core_steps.specs.declared.machine.Finished.{Finished}
use Rattle.core_steps.specs.declared.machine.Finished.TheVariants.{Last, Stuck}
use Rattle.core_steps.specs.Finishing.{Calls, Finishes, FinishesAfter, IsCallRefused, IsRefused, finish_limit}
use Rattle.watched.specs.Watching.{GoesUntil, Watches, WatchesAfter, WatchesCall, WatchesCallPart, WatchesFinish, WatchesPart}

-- ---- one after another

pub watches_then : {S : Type 0} (after : S → World → Event → Outcome → World → S → Type 0) (es fs : List Event) (os ps : List Outcome) (one mid last : S) (w m v : World)
    → Watches after one w es os m mid → Watches after mid m fs ps v last → Watches after one w (es ++ fs) (os ++ ps) v last
watches_then after [] fs [] ps one mid last w m v r s =
    subst (λ x. Watches after x w fs ps v last) r.1 (subst (λ x. Watches after mid x fs ps v last) r.0 s)
watches_then after [] fs (o ∷ os) ps one mid last w m v r s = absurd r
watches_then after (e ∷ es) fs [] ps one mid last w m v r s = absurd r
watches_then after (e ∷ es) fs (o ∷ os) ps one mid last w m v r s =
    (r.0, r.1, r.2, r.3, watches_then after es fs os ps r.1 mid last r.0 m v r.4 s)

-- one step more
pub watches_step : {S : Type 0} (after : S → World → Event → Outcome → World → S → Type 0) (es : List Event) (os : List Outcome) (e : Event) (o : Outcome)
    (one mid last : S) (w m v : World) → Watches after one w es os m mid → Step m e o v → after mid m e o v last
    → Watches after one w (es ++ e ∷ []) (os ++ o ∷ []) v last
watches_step after es os e o one mid last w m v r s is =
    watches_then after es (e ∷ []) os (o ∷ []) one mid last w m v r (v, last, s, is, (refl, refl))

pub replicate_more : {A : Type 0} (n : ℕ) (x : A) → replicate n x ++ x ∷ [] ≡ replicate (suc n) x
replicate_more zero x = refl
replicate_more (suc n) x = ap (λ xs. x ∷ xs) (replicate_more n x)

-- ---- the steps of a core's call

-- so many plain ones
abbrev pub WatchesSteps : {S : Type 0} → (S → World → Event → Outcome → World → S → Type 0) → S → World → ℕ → ℕ → World → S → Type 0
WatchesSteps after one w core n v other = Watches after one w (replicate n (Go core)) (replicate n Stepped) v other

next_step : {S : Type 0} (after : S → World → Event → Outcome → World → S → Type 0) (core n : ℕ) (one mid last : S) (w m v : World)
    → WatchesSteps after one w core n m mid → Step m (Go core) Stepped v → after mid m (Go core) Stepped v last → WatchesSteps after one w core (suc n) v last
next_step after core n one mid last w m v r s is =
    subst (λ es. Watches after one w es (replicate (suc n) Stepped) v last) (replicate_more n (Go core))
    (subst (λ os. Watches after one w (replicate n (Go core) ++ Go core ∷ []) os v last) (replicate_more n Stepped)
    (watches_step after (replicate n (Go core)) (replicate n Stepped) (Go core) Stepped one mid last w m v r s is))

-- after some plain steps one is plain
pub steps_watched_more : {S : Type 0} (after : S → World → Event → Outcome → World → S → Type 0) (core n : ℕ) (o : Outcome) (one mid last : S) (w m v : World)
    → o ≡ Stepped → WatchesSteps after one w core n m mid → Step m (Go core) o v → after mid m (Go core) o v last
    → WatchesSteps after one w core (n + 1) v last
steps_watched_more after core n o one mid last w m v e r s is =
    subst (λ k. WatchesSteps after one w core k v last) (sym (add-one n)) (next_step after core n one mid last w m v r
    (subst (λ o. Step m (Go core) o v) e s) (subst (λ o. after mid m (Go core) o v last) e is))

-- or is the last
pub steps_watched_end : {S : Type 0} (after : S → World → Event → Outcome → World → S → Type 0) (core n : ℕ) (o : Outcome) (one mid last : S) (w m v : World)
    → n < finish_limit → o ≢ Stepped → WatchesSteps after one w core n m mid → Step m (Go core) o v → after mid m (Go core) o v last
    → WatchesFinish after one w core (Last o) v last
steps_watched_end after core n o one mid last w m v few other r s is = (
  n,
  replicate n (Go core) ++ Go core ∷ [],
  replicate n Stepped ++ o ∷ [],
  (few, other, refl, refl),
  watches_step after (replicate n (Go core)) (replicate n Stepped) (Go core) o one mid last w m v r s is,
)

-- or there are too many
pub steps_watched_stuck : {S : Type 0} (after : S → World → Event → Outcome → World → S → Type 0) (core n : ℕ) (one last : S) (w v : World) → n ≡ finish_limit
    → WatchesSteps after one w core n v last → WatchesFinish after one w core Stuck v last
steps_watched_stuck after core n one last w v all r = (n, replicate n (Go core), replicate n Stepped, (all, refl, refl), r)

-- or one is refused
pub steps_watched_part : {S : Type 0} (after : S → World → Event → Outcome → World → S → Type 0) (core n : ℕ) (one mid last : S) (w m v : World) → v ≡ m
    → last ≡ mid → WatchesSteps after one w core n m mid → WatchesPart after one w core v last
steps_watched_part after core n one mid last w m v stays same r =
    (n, subst (λ x. WatchesSteps after one w core n x last) (sym stays) (subst (WatchesSteps after one w core n m) (sym same) r))

-- a call that didn't begin
pub call_watched_end : {S : Type 0} (after : S → World → Event → Outcome → World → S → Type 0) (core : ℕ) (request : Request) (o : Outcome) (one other : S)
    (w v : World) → o ≢ Stepped → Step w (Call core request) o v → after one w (Call core request) o v other
    → WatchesCall after one w core request (Last o) v other
call_watched_end after core request o one other w v not s is = (o, v, other, s, is, go o not)
  where
    go : (o : Outcome) → o ≢ Stepped → WatchesAfter after other v core o (Last o) v other
    go Stepped not = absurd (not refl)
    go (Wait blocker) not = (refl, refl, refl)
    go Idle not = (refl, refl, refl)
    go (Answered reply) not = (refl, refl, refl)
    go Full not = (refl, refl, refl)

-- and one that did
pub call_watched : {S : Type 0} (after : S → World → Event → Outcome → World → S → Type 0) (core : ℕ) (request : Request) (o : Outcome) (f : Finished)
    (one mid last : S) (w m v : World) → o ≡ Stepped → Step w (Call core request) o m → after one w (Call core request) o m mid
    → WatchesFinish after mid m core f v last → WatchesCall after one w core request f v last
call_watched after core request o f one mid last w m v e s is r = (
  Stepped,
  m,
  mid,
  subst (λ o. Step w (Call core request) o m) e s,
  subst (λ o. after one w (Call core request) o m mid) e is,
  r,
)

pub call_watched_part : {S : Type 0} (after : S → World → Event → Outcome → World → S → Type 0) (core : ℕ) (request : Request) (o : Outcome)
    (one mid last : S) (w m v : World) → o ≡ Stepped → Step w (Call core request) o m → after one w (Call core request) o m mid
    → WatchesPart after mid m core v last → WatchesCallPart after one w core request v last
call_watched_part after core request o one mid last w m v e s is r =
    (m, mid, subst (λ o. Step w (Call core request) o m) e s, subst (λ o. after one w (Call core request) o m mid) e is, r)

-- ---- a call, step by step

pub call_not_begun : (w v : World) (core : ℕ) (request : Request) (o : Outcome) → o ≢ Stepped → Step w (Call core request) o v → Calls w core request (Last o) v
call_not_begun w v core request o not s = (o, v, s, go o not)
  where
    go : (o : Outcome) → o ≢ Stepped → FinishesAfter v core o (Last o) v
    go Stepped not = absurd (not refl)
    go (Wait blocker) not = (refl, refl)
    go Idle not = (refl, refl)
    go (Answered reply) not = (refl, refl)
    go Full not = (refl, refl)

pub call_finished : (w m v : World) (core : ℕ) (request : Request) (o : Outcome) (f : Finished) → o ≡ Stepped → Step w (Call core request) o m
    → Finishes m core f v → Calls w core request f v
call_finished w m v core request o f e s r = (Stepped, m, subst (λ o. Step w (Call core request) o m) e s, r)

pub call_refused : (keeps : Bool) (w m v : World) (core : ℕ) (request : Request) (o : Outcome) → o ≡ Stepped → Step w (Call core request) o m
    → IsRefused keeps m core v → IsCallRefused keeps w core request v
call_refused keeps w m v core request o e s r = (m, subst (λ o. Step w (Call core request) o m) e s, r)

-- ---- where nobody watches

-- no step makes anything of nobody
abbrev pub same_after : {S : Type 0} → S → World → Event → Outcome → World → S → Type 0
same_after one w e o v other = other ≡ one

steps_unwatched : {S : Type 0} (one : S) (n core : ℕ) (w v : World) → StepsTo w core n v → WatchesSteps same_after one w core n v one
steps_unwatched one zero core w v s = (s, refl)
steps_unwatched one (suc n) core w v s = next_step same_after core n one one one w s.0 v (steps_unwatched one n core w s.0 s.1) s.2 refl

pub finish_unwatched : {S : Type 0} (one : S) (w : World) (core : ℕ) (f : Finished) (v : World) → Finishes w core f v
    → WatchesFinish same_after one w core f v one
finish_unwatched one w core (Last o) v h =
    steps_watched_end same_after core h.0 o one one one w h.1.2.0 v h.1.0 h.1.1 (steps_unwatched one h.0 core w h.1.2.0 h.1.2.1) h.1.2.2 refl
finish_unwatched one w core Stuck v h = steps_watched_stuck same_after core h.0 one one w v h.1.0 (steps_unwatched one h.0 core w v h.1.1)

pub part_unwatched : {S : Type 0} (keeps : Bool) (one : S) (w : World) (core : ℕ) (v : World) → IsRefused keeps w core v → WatchesPart same_after one w core v one
part_unwatched keeps one w core v (n, few, may, steps) = (n, steps_unwatched one n core w v steps)

pub call_unwatched : {S : Type 0} (one : S) (w : World) (core : ℕ) (request : Request) (f : Finished) (v : World) → Calls w core request f v
    → WatchesCall same_after one w core request f v one
call_unwatched one w core request f v h = (h.0, h.1, one, h.2, refl, go h.0 h.3)
  where
    go : (o : Outcome) → FinishesAfter h.1 core o f v → WatchesAfter same_after one h.1 core o f v one
    go Stepped r = finish_unwatched one h.1 core f v r
    go (Wait blocker) r = (r.0, refl, r.1)
    go Idle r = (r.0, refl, r.1)
    go (Answered reply) r = (r.0, refl, r.1)
    go Full r = (r.0, refl, r.1)

pub call_part_unwatched : {S : Type 0} (keeps : Bool) (one : S) (w : World) (core : ℕ) (request : Request) (v : World) → IsCallRefused keeps w core request v
    → WatchesCallPart same_after one w core request v one
call_part_unwatched keeps one w core request v (m, step, refused) = (m, one, step, refl, part_unwatched keeps one m core v refused)
