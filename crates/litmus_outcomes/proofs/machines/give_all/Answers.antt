use Rattle.machine_model.proofs.Words.{rules, subst, Run, take_all}
use Rattle.core_steps.specs.Machine.{state}
use Rattle.core_steps.proofs.Runs.{next_run}
use Rattle.litmus_outcomes.proofs.machines.give_all.Goals as goal

pub events-init : goal.events-init
events-init g c = search rules

pub events-preserved : goal.events-preserved
events-preserved g c = rw c.in_ok-push.ensures.items (next_run _ _ _ _ _ _ _ _ c.events-test.true c.index-events-at.is c.events.invariant c.in_ok-outcome.ensures.step)

pub returns : goal.returns
returns g c =
    subst (λ es. Run (state c.args.machine.now) es c.events.results.items (state c.events.machine)) (take_all c.events.at c.args.events.now c.events-test.false)
    c.events.invariant
