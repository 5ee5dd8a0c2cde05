-- What a take tells: the core whose call awaits it
use Rattle.machine_model.proofs.Words.{◌≡◌, ℕ, ◌<◌, ◌≤◌, refl, sym, ap, subst, ◌∙◌, Bool, true, false, arith, List, [], ◌∷◌, Some, None, if◌then◌else◌}
use Rattle.machine_model.proofs.Words.{∥∥₁_map, nat_lt, nat_tests, PageRange, Option, World, Made, Step, Took, asked, with_event}
use Rattle.mmu.specs.declared.message.Message.{Message}
use Rattle.mmu.specs.declared.message.Took.TheVariants as TookOf
use Rattle.machine_model.specs.declared.event.Event.{Event}
use Rattle.machine_model.specs.declared.event.Event.TheVariants.{Take}
use Rattle.machine_model.specs.declared.event.Outcome.{Outcome}
use Rattle.machine_model.specs.declared.event.Outcome.TheVariants.{Stepped}
use Rattle.machine_model.specs.declared.phase.Phase.{Phase}
use Rattle.machine_model.specs.Coherent.{AreAsked}
use Rattle.machine_model.specs.Holding.{awaits_in}
use Rattle.machine_model.specs.Sound.{IsReached}
use Rattle.machine_model.proofs.SoundKept.{reached_fine}
use Rattle.machine_model.proofs.Shapes.{Shape, rests, begins, ends, goes, aims, gives_up, works, joins, Works, clears, invalidates, walks, evicts}
use Rattle.machine_model.proofs.Shapes.{flushes, reviews, frees, IsGoing, going, picking, IsAiming, at_run, at_window, Comes, stopped, acts, comes}
use Rattle.slot_lock.specs.declared.plan.Place.{Place}
use Rattle.slot_lock.specs.declared.plan.Target.{Target}
use Rattle.core_steps.proofs.Keeping.{step_made}
use Rattle.core_steps.specs.Telling.{TakesTold, told_at}
use Rattle.driven.specs.Driving.{HasSender, IsSent}

-- ---- a take changes where no call stands

works_beside : (w : World) (c : ℕ) (e : Event) (v : World) → Works w c e v → v.calls.phase ≡ w.calls.phase
works_beside w c e v (clears a b d h) = ap (λ (y : World). y.calls.phase) h
works_beside w c e v (invalidates a b d h) = ap (λ (y : World). y.calls.phase) h
works_beside w c e v (walks a b d h) = ap (λ (y : World). y.calls.phase) h
works_beside w c e v (evicts a b d h) = ap (λ (y : World). y.calls.phase) h
works_beside w c e v (flushes a b d f h) = ap (λ (y : World). y.calls.phase) h
works_beside w c e v (reviews a b d f h) = ap (λ (y : World). y.calls.phase) h
works_beside w c e v (frees a b d f h) = ap (λ (y : World). y.calls.phase) h

not_going : (c d : ℕ) (e : Event) → IsGoing c e → e ≡ Take d → ⊥
not_going c d e going h = cc
not_going c d e (picking f) h = cc

not_aiming : (c d : ℕ) (place : Place) (target : Target) (e : Event) → IsAiming c place e target → e ≡ Take d → ⊥
not_aiming c d place target e (at_run p run) h = cc
not_aiming c d place target e at_window h = cc

shape_beside : (w : World) (d : ℕ) (e : Event) (o : Outcome) (v : World) → e ≡ Take d → Shape w e o v → v.calls.phase ≡ w.calls.phase
shape_beside w d e o v is (rests r h) = ap (λ (y : World). y.calls.phase) h
shape_beside w d e o v is (begins c request i s lt p below h) = let other = sym is ∙ i in cc
shape_beside w d e o v is (ends c reply i s lt p h) = let other = sym is ∙ i in cc
shape_beside w d e o v is (goes c i s lt g) = absurd (not_going c d e i is)
shape_beside w d e o v is (aims c place target i s lt p h) = absurd (not_aiming c d place target e i is)
shape_beside w d e o v is (gives_up c i s lt can u h) = let other = sym is ∙ i in cc
shape_beside w d e o v is (works c s lt k) = works_beside w c e v k
shape_beside w d e o v is (joins p t i s page j m h) = ap (λ (y : World). y.calls.phase) h

take_beside : (w : World) (d : ℕ) (o : Outcome) (v : World) → Step w (Take d) o v → v.calls.phase ≡ w.calls.phase
take_beside w d o v s = go (comes w (Take d) o v s)
  where
    go : Comes w (Take d) o v → v.calls.phase ≡ w.calls.phase
    go (stopped n i h) = ap (λ (y : World). y.calls.phase) h
    go (acts n h) = shape_beside (with_event w) d (Take d) o v refl h

-- ---- the sender

-- the pages that a message asks to drop
abbrev range_in : Took → Option PageRange
range_in (TookOf.Clear r) = Some r
range_in (TookOf.Invalidate r) = Some r
range_in TookOf.Idle = None

oldest : (phase : ℕ → Phase) (d : ℕ) (ms : List Message) (range : PageRange) → AreAsked phase d ms → range_in (asked ms) ≡ Some range
    → (c : ℕ) × (awaits_in (phase c) ≡ Some range)
oldest phase d [] range a h = absurd cc
oldest phase d (m ∷ ms) range a h = (m.from, a.1 ∙ by m.is_cleared h)
  where
    by : (b : Bool) → range_in (if b then TookOf.Invalidate m.range else TookOf.Clear m.range) ≡ Some range → Some m.range ≡ Some range
    by true h = h
    by false h = h

told_range : (o : Outcome) (a took : Took) (range : PageRange) → took ≡ told_at o a → range_in took ≡ Some range → range_in a ≡ Some range
told_range Stepped a took range e h = ap range_in (sym e) ∙ h
told_range _ a took range e h = let other : range_in TookOf.Idle ≡ Some range = ap range_in (sym e) ∙ h in absurd cc

-- only a core of the machine's awaits anything
here : (w : World) (d : ℕ) (range : PageRange) → IsReached w → awaits_in (w.calls.phase d) ≡ Some range → d < w.made.cores
here w d range r e = test (nat_lt d w.made.cores) refl
  where
    test : (b : Bool) → nat_lt d w.made.cores ≡ b → d < w.made.cores
    test true i = grind (arith, nat_tests)
    test false i =
        let out : w.made.cores ≤ d = grind (arith, nat_tests) in
        let other = ap awaits_in (sym ((reached_fine w r).order.outside d out)) ∙ e in absurd cc

sent : (w v : World) (c : ℕ) (took : Took) (range : PageRange) → ∥ IsReached w ∥₁ → TakesTold w c took v → range_in took ≡ Some range
    → ∥ HasSender v range ∥₁
sent w v c took range t h is = ∥∥₁_map t (λ r.
    let m = oldest w.calls.phase c (w.hardware.inbox c) range ((reached_fine w r).coherent.asked c)
    (told_range h.0 (asked (w.hardware.inbox c)) took range h.2 is) in
    let stays = take_beside w c h.0 v h.1 in (
      m.0,
      subst (λ n. m.0 < n) (ap (λ (x : Made). x.cores) (sym (step_made w (Take c) h.0 v h.1))) (here w m.0 range r m.1),
      subst (λ p. awaits_in (p m.0) ≡ Some range) (sym stays) m.1,
    ))

pub is_sent : (w v : World) (c : ℕ) (took : Took) → ∥ IsReached w ∥₁ → TakesTold w c took v → IsSent v took
is_sent w v c (TookOf.Clear range) t h = sent w v c (TookOf.Clear range) range t h refl
is_sent w v c (TookOf.Invalidate range) t h = sent w v c (TookOf.Invalidate range) range t h refl
is_sent w v c TookOf.Idle t h = tt
