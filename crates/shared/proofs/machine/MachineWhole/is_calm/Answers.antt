use Rattle.std.proofs.Common.{rules, ◌≡◌, arith, ap, sym, ◌∙◌}
use Rattle.machine_model.specs.declared.phase.Phase.TheVariants.{Free}
use Rattle.core_steps.specs.State.{world}
use Rattle.core_steps.proofs.Reached.{legal}
use Rattle.shared.proofs.InCalls.{calm_all, calm_more}
use Rattle.shared.proofs.Keeping.{few_cores}
use Rattle.shared.proofs.machine.MachineWhole.is_calm.Goals as goal

pub all-init : goal.all-init
all-init g c =
    let few = few_cores _ (legal _ c.args.self.now.reached) in
    let is = c.cores-count.ensures in
    record { below = λ d lt. absurd (omega (arith, lt)); few = omega (arith, few, is); is = is }

pub all-preserved : goal.all-preserved
all-preserved g c =
    let free : c.phase.result ≡ Free = search rules in
    record {
      below = calm_more (world g.M.SlotRead.slots c.args.self.now.engine) c.all.index c.all.invariant.below
          (ap (λ n. (world g.M.SlotRead.slots c.args.self.now.engine).calls.phase n) (sym c.new.ensures) ∙ (sym c.phase.ensures ∙ free));
      few = c.all.invariant.few;
      is = c.all.invariant.is;
    }

pub returns-clause-calm : goal.returns-clause-calm
returns-clause-calm g c = λ _.
    calm_all _ (legal _ c.args.self.now.reached)
    (λ d lt. c.all.invariant.below d (let n = c.all-test.false in let is = c.all.invariant.is in omega (arith, lt, n, is)))
