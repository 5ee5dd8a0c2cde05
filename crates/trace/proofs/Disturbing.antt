-- A call that waits is given up, or nothing comes of it.
use Rattle.machine_model.proofs.Words.{◌≡◌, ℕ, zero, suc, ◌<◌, ◌==◌, ◌⊎◌, inl, inr, Bool, true, false, Option, Some, None, refl, sym, ap, subst, ◌∙◌, arith}
use Rattle.machine_model.proofs.Words.{nat_lt, nat_tests, eq_true, eq_false, can_give_up, World, is_access}
use Rattle.machine_model.specs.declared.phase.Phase.TheVariants.{CopyAcks}
use Rattle.machine_model.specs.declared.event.Event.TheVariants as Ev
use Rattle.machine_model.proofs.Moves.{IsCallOf, call_at}
use Rattle.machine_model.proofs.SoundKept.{reached_fine}
use Rattle.machine_model.specs.Alone.{IsBeside}
use Rattle.machine_model.proofs.Taking.{its_access}
use Rattle.machine_model.proofs.Telling.{for_change, for_copy, waits_at}
use Rattle.trace_text.specs.declared.action.Action.TheVariants as By
use Rattle.trace_text.specs.declared.line.Line.TheVariants.{Act}
use Rattle.trace.specs.PlainText.{AwaitsNobody, Disturbs, Open, Reached}
use Rattle.trace.proofs.PlainCalls.{Meets, MeetsOpen}

below : (d n : ℕ) → d < suc n → (d == n) ≡ false → d < n
below d n l e = grind (arith, nat_tests)

-- one of the first n is above 0, or none is
some_above : (f : ℕ → ℕ) (n : ℕ) → ((d : ℕ) × (0 < f d)) ⊎ ((d : ℕ) → d < n → f d ≡ 0)
some_above f zero = inr (λ d l. absurd (omega (arith, l)))
some_above f (suc n) = elim (some_above f n) [
  | inl h ↦ inl h
  | inr none ↦ here none (f n) refl
]
  where
    here : ((d : ℕ) → d < n → f d ≡ 0) → (k : ℕ) → f n ≡ k → ((d : ℕ) × (0 < f d)) ⊎ ((d : ℕ) → d < suc n → f d ≡ 0)
    here none (suc k) e = inl (n, omega (arith, e))
    here none zero e = inr (λ d l. each d l (d == n) refl)
      where
        each : (d : ℕ) → d < suc n → (b : Bool) → (d == n) ≡ b → f d ≡ 0
        each d l true i = ap f (eq_true d n i) ∙ e
        each d l false i = none d (below d n l i)

-- the cores that are awaited are the machine's
awaits_nobody : (w : World) (o : Open) → ((d : ℕ) → 0 < o.takes d → nat_lt d w.made.cores ≡ true) → ((d : ℕ) → d < w.made.cores → o.takes d ≡ 0)
    → AwaitsNobody o
awaits_nobody w o there none d = go (o.takes d) refl
  where
    go : (k : ℕ) → o.takes d ≡ k → o.takes d ≡ 0
    go zero e = e
    go (suc k) e =
        let some : 0 < o.takes d = omega (arith, e) in
        let i = there d some in
        let l : d < w.made.cores = grind (arith, nat_tests) in
        none d l

-- Nothing comes of giving up but where a store awaits nobody any more.
pub gives_up : (w : World) (s : Reached) (core : ℕ) → Meets w s → Disturbs s.waiting (Act core By.GiveUp) ⊎ IsBeside w (Ev.GiveUp core)
gives_up w s core m = go s.waiting m.waiting
  where
    go : (o : Option Open) → MeetsOpen w s o → Disturbs o (Act core By.GiveUp) ⊎ IsBeside w (Ev.GiveUp core)
    go None calm = inr (inl (ap can_give_up (calm core)))
    go (Some o) z = its (core == o.core) refl
      where
        its : (b : Bool) → (core == o.core) ≡ b → Disturbs (Some o) (Act core By.GiveUp) ⊎ IsBeside w (Ev.GiveUp core)
        its false i = inr (inl (ap can_give_up (z.waiting.others core (eq_false core o.core i))))
        its true i =
            let same : core ≡ o.core = eq_true core o.core i in
            elim (waits_at (w.calls.phase o.core) z.waiting.range z.waiting.at_wait) [
              | for_change goal change is r ↦ inr (inl (ap (λ c. can_give_up (w.calls.phase c)) same ∙ ap can_give_up is))
              | for_copy touch frame is r ↦
                  let call : IsCallOf w o.core (CopyAcks touch frame) =
                  call_at w o.core (CopyAcks touch frame) is (reached_fine w m.reached).order in
                  let access : is_access o.request ≡ true = its_access w o.core touch o.request z.waiting.number call.asked in
                  elim (some_above o.takes w.made.cores) [
                    | inl h ↦ inr (inr (h.0, subst (λ n. 0 < n) (sym (z.takes h.0)) h.1))
                    | inr none ↦ inl (same, access, awaits_nobody w o z.there none)
                  ]
            ]
