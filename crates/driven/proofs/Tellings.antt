-- What the steps of a call tell
use Rattle.machine_model.proofs.Words.{◌≡◌, ◌≢◌, ℕ, ◌<◌, refl, sym, ap, subst, ◌∙◌, inl, inr, Bool, true, false, arith, Some, None, Option, is_some}
use Rattle.machine_model.proofs.Words.{∥∥₁_map, frame_of, if◌then◌else◌, nat_tests, Result, Ok, Err, add-one, World, Step}
use Rattle.std.specs.Prelude.{◌==◌, ◌||◌, ◌&&◌, ◌+◌}
use Rattle.vm_base.specs.declared.memory.NoMemory.{NoMemory as MemoryFault}
use Rattle.vm_base.specs.declared.requests.Request.{Request}
use Rattle.machine_model.specs.declared.event.Event.TheVariants.{Call, Go}
use Rattle.machine_model.specs.declared.event.Outcome.{Outcome}
use Rattle.machine_model.specs.declared.event.Outcome.TheVariants.{Stepped, Wait, Idle, Answered, Full}
use Rattle.machine_model.specs.declared.phase.Phase.{Phase}
use Rattle.machine_model.specs.declared.phase.Phase.TheVariants.{Fill, CopyPost, CopyAcks}
use Rattle.machine_model.proofs.Words.{∥∥₁_elim, props, IfSome}
use Rattle.machine_model.proofs.Moves.{call_at}
use Rattle.vm_calls.proofs.Passed.{checked_is_sound}
use Rattle.machine_model.proofs.SoundKept.{reached_fine}
use Rattle.machine_model.specs.Orderly.{IsAsked, Serves}
use Rattle.slot_lock.specs.declared.plan.Touch.{Touch}
use Rattle.slot_lock.specs.declared.plan.Plan.TheVariants as PlanOf
use Rattle.slot_lock.specs.Plan.{IsSoundTouch}
use Rattle.machine_model.specs.Sound.{IsReached}
use Rattle.core_steps.proofs.Keeping.{step_made}
use Rattle.core_steps.specs.Moving.{MayWant}
use Rattle.real_mmu.specs.Fills.{Fills, Due, due_in}
use Rattle.real_mmu.specs.Remembered.{own_range}
use Rattle.real_mmu.proofs.Due.{fills_are_due}
use Rattle.driven.specs.declared.telling.Told.{Told}
use Rattle.driven.specs.Telling.{touch_in, TellsFill, fill_of, fill_due, fill_if, fill_made, StepTells, TriesTelling, nothing_told, IsOne, Joins}
use Rattle.driven.specs.Telling.{latest, joined, StepsTell, is_second, LastTells, GoesTelling, GoesAfter, CallsTelling, step_limit}

-- ---- one step

abbrev page_in : ℕ → Option Due → ℕ
page_in p None = p
page_in p (Some d) = d.page

abbrev frame_in : ℕ → Option Due → ℕ
frame_in f None = f
frame_in f (Some d) = d.frame

-- the frame that is found is the one that the step gave
fill_found : (w v : World) (core : ℕ) (o : Outcome) → IsReached w → Step w (Go core) o v
    → TellsFill w v (fill_made v (fill_due w (due_in (w.calls.phase core))))
fill_found w v core o r s = go (due_in (w.calls.phase core)) refl
  where
    only : (p f : ℕ) → Fills w v p f → due_in (w.calls.phase core) ≡ Some (record { page = p; frame = f })
    only p f k = (fills_are_due w v (Go core) o r s p f).0 k

    found : (d : Due) → due_in (w.calls.phase core) ≡ Some d → (q : Option ℕ) → frame_of (v.slots.info d.page) ≡ q
        → TellsFill w v (fill_if q (fill_of w d.page d.frame))
    found d e None h = λ p f k.
        let at : d.page ≡ p = ap (page_in p) (sym e ∙ only p f k) in
        let same : frame_of (v.slots.info p) ≡ None = subst (λ x. frame_of (v.slots.info x) ≡ None) at h in
        let now = sym same ∙ k.now in cc
    found d e (Some g) h = test (g == d.frame) refl
      where
        is : g == d.frame ≡ true → g ≡ d.frame
        is i = grind (arith, nat_tests)

        test : (b : Bool) → g == d.frame ≡ b → TellsFill w v (if b then Some (fill_of w d.page d.frame) else None)
        test true i = ((fills_are_due w v (Go core) o r s d.page d.frame).1 e (h ∙ ap Some (is i)), refl)
        test false i = λ p f k.
            let at : d.page ≡ p = ap (page_in p) (sym e ∙ only p f k) in
            let frame : d.frame ≡ f = ap (frame_in f) (sym e ∙ only p f k) in
            let same : frame_of (v.slots.info p) ≡ Some g = subst (λ x. frame_of (v.slots.info x) ≡ Some g) at h in
            let now : Some g ≡ Some f = sym same ∙ k.now in
            let eq : g ≡ d.frame = cc in grind (arith, nat_tests)

    go : (d : Option Due) → due_in (w.calls.phase core) ≡ d → TellsFill w v (fill_made v (fill_due w d))
    go None e = λ p f k. let other = sym e ∙ only p f k in cc
    go (Some d) e = found d e (frame_of (v.slots.info d.page)) refl

pub step_tells : (w v : World) (core : ℕ) (o : Outcome) (told : Told) → ∥ IsReached w ∥₁ → Step w (Go core) o v
    → told.own ≡ own_range (w.calls.phase core) → told.fill ≡ fill_made v (fill_due w (due_in (w.calls.phase core))) → StepTells w core told o v
step_tells w v core o told t s own fill = record {
  step = s;
  own = own;
  fill = subst (λ f. ∥ TellsFill w v f ∥₁) (sym fill) (∥∥₁_map t (λ r. fill_found w v core o r s));
}

-- it was due
pub was_due : (w v : World) (d : Option Due) → is_some (fill_made v (fill_due w d)) ≡ true → is_some d ≡ true
was_due w v None h = h
was_due w v (Some d) h = refl

-- ---- the access of a call

touch_sound : (w : World) (c : ℕ) (phase : Phase) (touch : Touch) → c < w.made.cores → ∥ IsReached w ∥₁ → w.calls.phase c ≡ phase
    → (IsAsked w.made w.calls.requests c (w.calls.number c) phase → Serves w.made w.calls.requests c (w.calls.number c) (PlanOf.Touch touch))
    → IsSoundTouch touch
touch_sound w c phase touch here t e serves = ∥∥₁_elim t (hlevel props) (λ r.
    let order = (reached_fine w r).order in
    let few = order.few in
    let asked = serves (call_at w c phase e order).asked in
    checked_is_sound _ c asked.request (PlanOf.Touch touch) (omega (arith, few, here)) asked.passed)

pub stands_sound : (w : World) (c : ℕ) (phase : Phase) → c < w.made.cores → ∥ IsReached w ∥₁ → w.calls.phase c ≡ phase
    → IfSome (touch_in phase) IsSoundTouch
stands_sound w c (Fill touch frame) here t e = touch_sound w c (Fill touch frame) touch here t e (λ h. h)
stands_sound w c (CopyPost touch frame) here t e = touch_sound w c (CopyPost touch frame) touch here t e (λ h. h)
stands_sound w c (CopyAcks touch frame) here t e = touch_sound w c (CopyAcks touch frame) touch here t e (λ h. h)
stands_sound w c phase here t e = tt

-- ---- many steps

told_once : {A : Type 0} (before now : Option A) → (is_some before ≡ true → is_some now ≡ true → ⊥) → IsOne before now (latest before now)
told_once None None apart = refl
told_once (Some x) None apart = refl
told_once None (Some y) apart = refl
told_once (Some x) (Some y) apart = apart refl refl

-- the next step has nothing to tell of which something was told
not_second : (a b c d : Bool) → (a && b) || (c && d) ≡ false → (a ≡ true → b ≡ true → ⊥) × (c ≡ true → d ≡ true → ⊥)
not_second true true c d h = absurd cc
not_second true false true true h = absurd cc
not_second true false true false h = ((λ x y. cc), λ x y. cc)
not_second true false false d h = ((λ x y. cc), λ x y. cc)
not_second false b true true h = absurd cc
not_second false b true false h = ((λ x y. cc), λ x y. cc)
not_second false b false d h = ((λ x y. cc), λ x y. cc)

joins : (m : World) (core : ℕ) (before now : Told) (o : Outcome) (v : World) → is_second before (m.calls.phase core) ≡ false
    → StepTells m core now o v → (is_some now.fill ≡ true → is_some (due_in (m.calls.phase core)) ≡ true) → Joins before now (joined before now)
joins m core before now o v apart s due =
    let parts = not_second (is_some before.own) (is_some (own_range (m.calls.phase core))) (is_some before.fill) (is_some (due_in
    (m.calls.phase core))) apart in
    record {
      own = told_once before.own now.own (λ x y. parts.0 x (subst (λ q. is_some q ≡ true) s.own y));
      fill = told_once before.fill now.fill (λ x y. parts.1 x (due y));
    }

-- one plain step more
pub more : (w m v : World) (core n : ℕ) (before all : Told) (o : Outcome) (keeps : Bool) → o ≡ Stepped → is_second before (m.calls.phase core) ≡ false
    → StepsTell w core n before m → TriesTelling keeps m core before (Ok o) all v → StepsTell w core (n + 1) all v
more w m v core n before all o keeps plain apart s t =
    subst (λ k. StepsTell w core k all v) (sym (add-one n)) (
      m,
      before,
      t.0,
      s,
      subst (λ x. StepTells m core t.0 x v) plain t.1,
      subst (Joins before t.0) (sym t.2) (joins m core before t.0 o v apart t.1 t.3),
    )

-- the last step
pub last : (w m v : World) (core n : ℕ) (before all : Told) (o : Outcome) (keeps : Bool) → o ≢ Stepped → is_second before (m.calls.phase core) ≡ false
    → StepsTell w core n before m → TriesTelling keeps m core before (Ok o) all v → GoesTelling keeps w core all (Ok o) v
last w m v core n before all o keeps other apart s t =
    (n, m, before, s, by o other (t.0, t.1, subst (Joins before t.0) (sym t.2) (joins m core before t.0 o v apart t.1 t.3)))
  where
    by : (o : Outcome) → o ≢ Stepped → (now : Told) × StepTells m core now o v × Joins before now all → LastTells m core n before all o v
    by Stepped ne h = absurd (ne refl)
    by (Wait b) ne h = h
    by Idle ne h = h
    by Full ne h = h
    by (Answered reply) ne h = h

-- a step before which there is something to tell twice
pub stops : (w m : World) (core n : ℕ) (all : Told) (keeps : Bool) → is_second all (m.calls.phase core) ≡ true → StepsTell w core n all m
    → GoesTelling keeps w core all (Ok Stepped) m
stops w m core n all keeps second s = (n, m, all, s, (refl, refl, inr second))

pub at_limit : (w m : World) (core n : ℕ) (all : Told) (keeps : Bool) → n ≡ step_limit → StepsTell w core n all m → GoesTelling keeps w core all (Ok Stepped) m
at_limit w m core n all keeps limit s = (n, m, all, s, (refl, refl, inl limit))

-- a step to which memory was refused
pub refused : (w m v : World) (core n : ℕ) (before all : Told) (e : MemoryFault) (keeps : Bool) → StepsTell w core n before m
    → TriesTelling keeps m core before (Err e) all v → GoesTelling keeps w core all (Err e) v
refused w m v core n before all e keeps s t = (
  n,
  subst (λ x. StepsTell w core n x v) (sym t.2) (subst (StepsTell w core n before) (sym t.0) s),
  subst (λ x. MayWant keeps x (Go core)) (sym t.0) t.1,
)

pub tried_made : (w v : World) (core : ℕ) (before all : Told) (r : Result Outcome MemoryFault) (keeps : Bool) → TriesTelling keeps w core before r all v
    → v.made ≡ w.made
tried_made w v core before all (Ok o) keeps t = step_made w (Go core) o v t.1.step
tried_made w v core before all (Err e) keeps t = ap (λ (x : World). x.made) t.0

-- ---- a call

-- one that didn't begin
pub not_begun : (w v : World) (core : ℕ) (request : Request) (o : Outcome) (told : Told) (keeps : Bool) → o ≢ Stepped → told ≡ nothing_told
    → Step w (Call core request) o v → CallsTelling keeps w core request told (Ok o) v
not_begun w v core request o told keeps other none s = (o, v, s, by o other)
  where
    by : (x : Outcome) → x ≢ Stepped → GoesAfter keeps v core x told (Ok x) v
    by Stepped ne = absurd (ne refl)
    by (Wait b) ne = (refl, none, refl)
    by Idle ne = (refl, none, refl)
    by Full ne = (refl, none, refl)
    by (Answered reply) ne = (refl, none, refl)

pub begun : (w m v : World) (core : ℕ) (request : Request) (o : Outcome) (told : Told) (ended : Result Outcome MemoryFault) (keeps : Bool) → o ≡ Stepped
    → Step w (Call core request) o m → GoesTelling keeps m core told ended v → CallsTelling keeps w core request told ended v
begun w m v core request o told ended keeps plain s g = (Stepped, m, subst (λ x. Step w (Call core request) x m) plain s, g)
