use Rattle.std.proofs.Common.{◌≡◌, ◌<◌, ◌⊎◌, inl, inr, ℕ, arith, subst, sym, ◌∙◌}
use Rattle.machine_model.specs.declared.phase.Phase.TheVariants.{Free}
use Rattle.core_steps.specs.Machine.{state}
use Rattle.litmus_merges.proofs.Lists.{below}
use Rattle.litmus_outcomes.proofs.machines.first_open.Goals as goal

pub cores-init : goal.cores-init
cores-init g c = λ n l m. absurd (omega (arith, l))

pub cores-preserved : goal.cores-preserved
cores-preserved g c = λ n l m. by n m (below n c.cores.index l)
  where
    by : (n : ℕ) → n < (state c.args.machine.now).made.cores → (n < c.cores.index) ⊎ (n ≡ c.cores.index) → (state c.args.machine.now).calls.phase n ≡ Free
    by n m (inl lt) = c.cores.invariant n lt m
    by n m (inr eq) =
        let here : n ≡ c.new-core.result = eq ∙ sym c.new-core.ensures in
        subst (λ (k : ℕ). k < (state c.args.machine.now).made.cores → (state c.args.machine.now).calls.phase k ≡ Free) (sym here)
        (c.has_call.ensures c.if-has_call.false) m

pub returns : goal.returns
returns g c = λ n l m. let end = c.cores-test.false in c.cores.invariant n (omega (arith, l, end)) m
