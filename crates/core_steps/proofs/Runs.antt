-- Runs that grow by one event
use Rattle.machine_model.proofs.Words.{◌≡◌, ℕ, Bool, ◌+◌, ◌<◌, ◌≤◌, List, [], ◌∷◌, ◌++◌, refl, sym, subst, ap, ◌∙◌, take, length, get_or, take_more, PageRange}
use Rattle.machine_model.proofs.Words.{Slots, IsNew, World, Made, new_world, Step, Run, nothing_mapped, Replays}
use Rattle.machine_model.specs.declared.event.Event.{Event}
use Rattle.machine_model.specs.declared.event.Outcome.{Outcome}
use Rattle.std.proofs.lemmas.Option.{slice_get_read}
use Rattle.machine_model.proofs.Bracketed.{bracketed}
use Rattle.machine_model.proofs.SoundKept.{run_more}
use Rattle.core_steps.specs.Moving.{MayWant, JoinsAsMap}
use Rattle.core_steps.specs.Dividing.{DividesAsMap}
use Rattle.core_steps.specs.Running.{IsRefusedAt, LogsPlainly, RunsAsMap}
use Rattle.core_steps.proofs.Keeping.{step_made}
use Rattle.machine_model.specs.Sound.{IsReached}
use Rattle.machine_model.proofs.SoundKept.{reached_sound}

-- the event at n comes next
pub next_run : (w : World) (es : List Event) (n : ℕ) (e : Event) (os : List Outcome) (m v : World) (o : Outcome) → n < length es
    → e ≡ get_or es n e → Run w (take n es) os m → Step m e o v → Run w (take (n + 1) es) (os ++ o ∷ []) v
next_run w es n e os m v o h is r s =
    subst (λ f. Run w f (os ++ o ∷ []) v) (sym (take_more es n e h ∙ ap (λ x. take n es ++ x ∷ []) (sym is))) (run_more (take n es) os w m v e o r s)

-- the event at n is refused
pub refused_next : (keeps : Bool) (w : World) (es : List Event) (n : ℕ) (e : Event) (os : List Outcome) (m : World) → n < length es → e ≡ get_or es n e
    → Run w (take n es) os m → MayWant keeps m e → IsRefusedAt keeps w es n
refused_next keeps w es n e os m h is r wants = (e, slice_get_read es (length es) n e refl h is, (os, (m, r, wants)))

-- a run that divides and joins as the map does goes one event on
pub as_map_more : (P : PageRange → ℕ → ℕ → Bool) (C : Slots → ℕ → Type 0) (F : Slots → Slots → ℕ → Type 0) (es : List Event) (os : List Outcome)
    (w m v : World) (e : Event) (o : Outcome) → RunsAsMap P C F w es os m → Step m e o v → JoinsAsMap C F m e o v → DividesAsMap P m e o v
    → RunsAsMap P C F w (es ++ e ∷ []) (os ++ o ∷ []) v
as_map_more P C F [] [] w m v e o r s j d =
    (v, subst (λ w. Step w e o v) r s, subst (λ w. JoinsAsMap C F w e o v) r j, subst (λ w. DividesAsMap P w e o v) r d, refl)
as_map_more P C F [] (p ∷ os) w m v e o r s j d = absurd r
as_map_more P C F (x ∷ es) [] w m v e o r s j d = absurd r
as_map_more P C F (x ∷ es) (p ∷ os) w m v e o r s j d = (r.0, r.1, r.2, r.3, as_map_more P C F es os r.0 m v e o r.4 s j d)

pub next_as_map : (P : PageRange → ℕ → ℕ → Bool) (C : Slots → ℕ → Type 0) (F : Slots → Slots → ℕ → Type 0) (w : World) (es : List Event) (n : ℕ)
    (e : Event) (os : List Outcome) (m v : World) (o : Outcome) → n < length es → e ≡ get_or es n e → RunsAsMap P C F w (take n es) os m
    → Step m e o v → JoinsAsMap C F m e o v → DividesAsMap P m e o v → RunsAsMap P C F w (take (n + 1) es) (os ++ o ∷ []) v
next_as_map P C F w es n e os m v o h is r s j d =
    subst (λ f. RunsAsMap P C F w f (os ++ o ∷ []) v) (sym (take_more es n e h ∙ ap (λ x. take n es ++ x ∷ []) (sym is)))
    (as_map_more P C F (take n es) os w m v e o r s j d)

run_made : (es : List Event) (os : List Outcome) (w v : World) → Run w es os v → v.made ≡ w.made
run_made [] [] w v r = ap (λ u. u.made) r
run_made [] (p ∷ os) w v r = absurd r
run_made (e ∷ es) [] w v r = absurd r
run_made (e ∷ es) (o ∷ os) w v r = run_made es os r.0 v r.2 ∙ step_made w e o r.0 r.1

pub plainly : (made : Made) (slots : Slots) (es : List Event) (os : List Outcome) (w : World) → made.cores ≤ 64 → IsNew slots
    → Run (new_world made slots) es os w → LogsPlainly made.file es os w.calls.log
plainly made slots es os w few new r =
    let is_reached : IsReached w = record { made = made; few = few; slots = slots; events = es; outcomes = os; new = new; run = r } in
    let sound = reached_sound w is_reached in
    let same : w.made ≡ made = run_made es os (new_world made slots) w r in (
      sound.0,
      subst (λ qs. Replays qs (nothing_mapped made.file) w.calls.log sound.0) (bracketed made slots es os w few new r).requests
          (subst (λ m. Replays w.calls.requests (nothing_mapped m.file) w.calls.log sound.0) same sound.1.log),
    )
