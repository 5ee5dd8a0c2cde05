-- Calls on disjoint pages don't wait for slots of each other.
use Rattle.machine_model.proofs.Words.{◌≡◌, ℕ, true, subst, arith, Option, has_in, in_has, Slots, between, goal_range, target_range, Go, Outcome, Wait, Phase}
use Rattle.machine_model.proofs.Words.{Lock}
use Rattle.machine_model.proofs.Words.{holds, some_has, World, Made, Step}
use Rattle.machine_model.specs.declared.event.Blocker.TheVariants as WaitsFor
use Rattle.machine_model.specs.declared.phase.Phase.TheVariants.{Back as Leaving}
use Rattle.machine_model.specs.Holding.{range_in}
use Rattle.machine_model.specs.Orderly.{IsReady}
use Rattle.machine_model.specs.Sound.{IsBlocked, IsReached}
use Rattle.machine_model.proofs.SoundKept.{reached_fine, steps_sound}
use Rattle.machine_model.specs.Apart.{AreApart, KeepApart}

-- what a call holds is of its footprint
footprint_has : (made : Made) (s : Slots) (cached : ℕ → ℕ → Option ℕ) (phase : Phase) (p : ℕ) → IsReady made s cached phase → holds phase p ≡ true
    → some_has (range_in phase) p ≡ true
footprint_has made s cached (Lock goal cursor) p r h =
    let low = has_in (between (goal_range goal).first cursor) p h in
    let high = r.1 in
    in_has (goal_range goal) p low.0 (let b = low.1 in omega (arith, high, b))
footprint_has made s cached (Leaving place target held) p r h =
    let rest = r.1 in
    let low = has_in held p h in
    in_has (target_range place target) p (let a = low.0 in let b = rest.low in omega (arith, a, b))
    (let a = low.1 in let b = rest.same_end in omega (arith, a, b))
footprint_has made s cached _ p r h = h

no_wait : (w v : World) (c d : ℕ) (o : Outcome) → IsReached w → AreApart w c d → Step w (Go c) o v → o ≡ Wait (WaitsFor.Slot d) → ⊥
no_wait w v c d o reached apart step e =
    let order = (reached_fine w reached).order in
    let b : IsBlocked w (Go c) (Wait (WaitsFor.Slot d)) = subst (IsBlocked w (Go c)) e (steps_sound w v (Go c) o reached step).blocked in
    let same : b.0 ≡ c = cc in
    let p = b.3 in
    let mine : some_has (range_in (w.calls.phase c)) p ≡ true = subst (λ n. some_has (range_in (w.calls.phase n)) p ≡ true) same b.4 in
    apart p mine (footprint_has w.made w.slots w.memory.cached (w.calls.phase d) p (order.ready d) (order.only d p b.5))

pub kept_apart : (w : World) → IsReached w → KeepApart w
kept_apart w reached =
    let order = (reached_fine w reached).order in
    record {
      held = λ c d p h k. let a = order.owned c p h in let b = order.owned d p k in cc;
      waits = λ c d o v apart step e. no_wait w v c d o reached apart step e;
    }
