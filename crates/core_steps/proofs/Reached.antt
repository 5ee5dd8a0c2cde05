-- What a machine knows of the state that it has: some run leads to it
use Rattle.machine_model.proofs.Words.{◌≡◌, ℕ, zero, suc, ◌<◌, ◌≤◌, ◌+◌, Bool, None, sym, subst, arith, Result, Ok, Err, add-one, IfOk, ∥∥₁_map, Slots, IsNew}
use Rattle.machine_model.proofs.Words.{World, new_world, Step, StepsTo}
use Rattle.machine_model.specs.declared.event.Event.{Event}
use Rattle.machine_model.specs.declared.event.Event.TheVariants.{Go}
use Rattle.machine_model.specs.declared.event.Outcome.{Outcome}
use Rattle.machine_model.specs.declared.event.Outcome.TheVariants.{Stepped}
use Rattle.std.specs.Prelude.{◌≢◌}
use Rattle.vm_base.specs.declared.memory.NoMemory.{NoMemory}
use Rattle.core_steps.specs.declared.machine.Finished.TheVariants.{Last}
use Rattle.machine_model.specs.Invariant.{IsWellFormed}
use Rattle.machine_model.specs.Sound.{IsReached, IsSoundStep}
use Rattle.machine_model.proofs.SoundKept.{reached_fine, reached_opening, reached_sound, reached_step, steps_sound}
use Rattle.machine_model.specs.declared.setup.Setup.{Setup}
use Rattle.core_steps.specs.Finishing.{Finishes, IsRefused, finish_limit}
use Rattle.core_steps.specs.Machine.{IsLegal}
use Rattle.core_steps.specs.Moving.{MayWant, Tries}
use Rattle.machine_model.specs.declared.setup.CallLimit.{CallLimit}
use Rattle.machine_model.specs.declared.setup.CallLimit.TheVariants.{Usual}
use Rattle.machine_model.specs.Setups.{fault_of, fault_within, made_of}
use Rattle.machine_model.proofs.Setups.{few_cores_within}

pub well : (w : World) → ∥ IsReached w ∥₁ → ∥ IsWellFormed w ∥₁
well w t = ∥∥₁_map t (reached_fine w)

pub legal : (w : World) → ∥ IsReached w ∥₁ → IsLegal w
legal w t = record { reached = t; sound = ∥∥₁_map t (reached_sound w) }

-- a setup without fault has at most 64 cores
pub few_cores : {A : Type 0} (s : Setup A) → fault_of s ≡ None → s.cores ≤ 64
few_cores s e = few_cores_within Usual s e

pub new_reached : {A : Type 0} (w : World) (limit : CallLimit) (s : Setup A) (slots : Slots) → fault_within limit s ≡ None → IsNew slots
    → w ≡ new_world (made_of s) slots → ∥ IsReached w ∥₁
new_reached w limit s slots fine_setup n e =
    subst (λ u. ∥ IsReached u ∥₁) (sym e) ∣ reached_opening (made_of s) slots (few_cores_within limit s fine_setup) n ∣₁

-- a step was made, or refused
pub kept_by : (keeps : Bool) (r : Result Outcome NoMemory) (w v : World) (e : Event) → Tries (Step w e) (MayWant keeps w e) w r v → ∥ IsReached w ∥₁
    → ∥ IsReached v ∥₁
kept_by keeps (Ok o) w v e s t = ∥∥₁_map t (λ h. reached_step w v e o h s)
kept_by keeps (Err x) w v e s t = subst (λ u. ∥ IsReached u ∥₁) (sym s.0) t

pub sound_by : (keeps : Bool) (r : Result Outcome NoMemory) (w v : World) (e : Event) → Tries (Step w e) (MayWant keeps w e) w r v → ∥ IsReached w ∥₁
    → IfOk r (λ o. ∥ IsSoundStep w e o v ∥₁)
sound_by keeps (Ok o) w v e s t = ∥∥₁_map t (λ h. steps_sound w v e o h s)
sound_by keeps (Err x) w v e s t = tt

-- after some steps the next was refused, and nothing changed
pub refused_at : (keeps : Bool) (was now new : World) (c n : ℕ) → n < finish_limit → StepsTo was c n now
    → (new ≡ now) × MayWant keeps now (Go c) → IsRefused keeps was c new
refused_at keeps was now new c n h s r = subst (IsRefused keeps was c) (sym r.0) (n, h, r.1, s)

-- after some steps one is plain
pub steps_more : (was now new : World) (c n : ℕ) (o : Outcome) → o ≡ Stepped → StepsTo was c n now → Step now (Go c) o new → StepsTo was c (n + 1) new
steps_more was now new c n o e s step = subst (λ k. StepsTo was c k new) (sym (add-one n)) (now, s, subst (λ o. Step now (Go c) o new) e step)

-- after some steps some more are plain
pub steps_join : (was now new : World) (c n k : ℕ) → StepsTo was c n now → StepsTo now c k new → StepsTo was c (n + k) new
steps_join was now new c n k s more = let swap : k + n ≡ n + k = omega arith in subst (λ j. StepsTo was c j new) swap (go k new more)
  where
    go : (k : ℕ) (v : World) → StepsTo now c k v → StepsTo was c (k + n) v
    go zero v same =
        let sum : n ≡ 0 + n = omega arith in subst (λ j. StepsTo was c j v) sum (subst (StepsTo was c n) (sym same) s)
    go (suc k) v (m, before, step) =
        let sum : suc (k + n) ≡ suc k + n = omega arith in subst (λ j. StepsTo was c j v) sum (m, go k m before, step)

-- they lead to a state that runs reach
pub steps_reached : (w v : World) (c n : ℕ) → StepsTo w c n v → ∥ IsReached w ∥₁ → ∥ IsReached v ∥₁
steps_reached w v c zero same t = subst (λ u. ∥ IsReached u ∥₁) (sym same) t
steps_reached w v c (suc n) (m, before, step) t = ∥∥₁_map (steps_reached w m c n before t) (λ h. reached_step m v (Go c) Stepped h step)

-- or is the last
pub steps_end : (was now new : World) (c n : ℕ) (o : Outcome) → n < finish_limit → o ≢ Stepped → StepsTo was c n now → Step now (Go c) o new
    → Finishes was c (Last o) new
steps_end was now new c n o h other s step = (n, (h, other, (now, s, step)))
