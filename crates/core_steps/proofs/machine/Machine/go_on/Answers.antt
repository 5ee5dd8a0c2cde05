use Rattle.machine_model.proofs.Words.{◌≡◌, ◌<◌, ◌+◌, ◌^◌, arith, rules, subst, sym}
use Rattle.machine_model.specs.declared.event.Outcome.TheVariants.{Stepped}
use Rattle.std.specs.Prelude.{◌≢◌}
use Rattle.core_steps.proofs.Reached.{legal, refused_at, steps_end, steps_join, steps_more}
use Rattle.core_steps.proofs.at_once.Divided.{as_map_join, as_map_more, none_divided}
use Rattle.core_steps.specs.Dividing.{StepsAsMap}
use Rattle.core_steps.proofs.machine.Machine.go_on.Goals as goal

pub returns-in-Err-clause-err : goal.returns-in-Err-clause-err
returns-in-Err-clause-err g c =
    let few = c.steps_at_once-n.ensures.few in
    let below : c.steps.n + c.steps_at_once-n.result < 2 ^ 40 = omega (arith, c.steps-test.true, few) in
    λ was s. refused_at g.L.Ledger.keeps _ _ _ c.args.core (c.steps.n + c.steps_at_once-n.result) below
    (steps_join _ _ _ c.args.core c.steps.n _ (c.steps.invariant.made was s) c.steps_at_once-n.ensures.steps) c.in-Err.ensures.step

pub returns-clause-ends : goal.returns-clause-ends
returns-clause-ends g c =
    let few = c.steps.invariant.few in
    let all : c.steps.n ≡ 2 ^ 40 = omega (arith, c.steps-test.false, few) in
    λ was s. (c.steps.n, (all, c.steps.invariant.made was s))

pub returns-clause-legal : goal.returns-clause-legal
returns-clause-legal g c = legal _ c.steps.self.reached

pub returns-then-ne-clause-ends : goal.returns-then-ne-clause-ends
returns-then-ne-clause-ends g c =
    let few = c.steps_at_once-n.ensures.few in
    let below : c.steps.n + c.steps_at_once-n.result < 2 ^ 40 = omega (arith, c.steps-test.true, few) in
    let other : c.in-Ok.outcome ≢ Stepped = search rules in
    λ was s. steps_end _ _ _ c.args.core (c.steps.n + c.steps_at_once-n.result) _ below other
    (steps_join _ _ _ c.args.core c.steps.n _ (c.steps.invariant.made was s) c.steps_at_once-n.ensures.steps) c.in-Ok.ensures.step

pub steps-preserved : goal.steps-preserved
steps-preserved g c =
    let few = c.steps_at_once-n.ensures.few in
    let plain : c.in-Ok.outcome ≡ Stepped = search rules in
    record {
      few = omega (arith, c.steps-test.true, few);
      made = λ was s. steps_more _ _ _ c.args.core (c.steps.n + c.steps_at_once-n.result) _ plain
          (steps_join _ _ _ c.args.core c.steps.n _ (c.steps.invariant.made was s) c.steps_at_once-n.ensures.steps) c.in-Ok.ensures.step;
      divided = λ was s. as_map_more g.M.SlotMap.parts _ _ _ c.args.core (c.steps.n + c.steps_at_once-n.result) _ plain
          (as_map_join g.M.SlotMap.parts _ _ _ c.args.core c.steps.n _ (c.steps.invariant.divided was s)
          (none_divided g.M.SlotMap.parts _ _ c.args.core _ c.steps_at_once-n.ensures.steps c.steps_at_once-n.ensures.edges))
          c.in-Ok.ensures.step c.in-Ok.ensures.divides;
    }

pub returns-in-Err-clause-divides : goal.returns-in-Err-clause-divides
returns-in-Err-clause-divides g c = λ was s. (
  c.steps.n + c.steps_at_once-n.result,
  subst (StepsAsMap g.M.SlotMap.parts was c.args.core (c.steps.n + c.steps_at_once-n.result)) (sym c.in-Err.ensures.step.0)
      (as_map_join g.M.SlotMap.parts _ _ _ c.args.core c.steps.n _ (c.steps.invariant.divided was s)
      (none_divided g.M.SlotMap.parts _ _ c.args.core _ c.steps_at_once-n.ensures.steps c.steps_at_once-n.ensures.edges)),
)

pub returns-clause-divides : goal.returns-clause-divides
returns-clause-divides g c = λ was s. (c.steps.n, c.steps.invariant.divided was s)

pub returns-then-ne-clause-divides : goal.returns-then-ne-clause-divides
returns-then-ne-clause-divides g c = λ was s. (
  c.steps.n + c.steps_at_once-n.result,
  (
    _,
    as_map_join g.M.SlotMap.parts _ _ _ c.args.core c.steps.n _ (c.steps.invariant.divided was s)
        (none_divided g.M.SlotMap.parts _ _ c.args.core _ c.steps_at_once-n.ensures.steps c.steps_at_once-n.ensures.edges),
    c.in-Ok.ensures.step,
    c.in-Ok.ensures.divides,
  ),
)
