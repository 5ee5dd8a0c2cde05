use Rattle.machine_model.proofs.Words.{◌≡◌, take, refl, rules, subst, Run, take_all}
use Rattle.core_steps.specs.State.{world}
use Rattle.core_steps.specs.Running.{RunsAsMap}
use Rattle.core_steps.proofs.Runs.{next_run, next_as_map, refused_next}
use Rattle.core_steps.proofs.running.take_events.Goals as goal

pub events-init : goal.events-init
events-init g c = record {
  run = rw c.requires.none refl;
  as_map = rw c.requires.none refl;
  room = c.requires.room;
  count = search rules;
}

pub events-preserved : goal.events-preserved
events-preserved g c = record {
  run = rw c.push_reserved.ensures.items (next_run _ _ _ _ _ _ _ _ c.events-test.true c.index-events-at.is c.events.invariant.run c.in-Ok.ensures.step);
  as_map = rw c.push_reserved.ensures.items (next_as_map _ _ _ _ _ _ _ _ _ _ _ c.events-test.true c.index-events-at.is c.events.invariant.as_map
      c.in-Ok.ensures.step c.in-Ok.ensures.joins c.in-Ok.ensures.divides);
  room = search rules;
  count = search rules;
}

pub returns : goal.returns
returns g c =
    let es = c.args.events.now in
    let os = c.events.outcomes.items in
    let w = world g.M.SlotRead.slots c.args.machine.now.engine in
    let v = world g.M.SlotRead.slots c.events.machine.engine in
    let all : take c.events.at es ≡ es = take_all c.events.at es c.events-test.false in
    record {
      run = subst (λ es. Run w es os v) all c.events.invariant.run;
      as_map = subst (λ es. RunsAsMap g.M.SlotMap.parts g.M.SlotMap.can_fold g.M.SlotMap.folds w es os v) all c.events.invariant.as_map;
      all = search rules;
      err = tt;
    }

pub returns-in-Err-clause-err : goal.returns-in-Err-clause-err
returns-in-Err-clause-err g c =
    refused_next _ _ _ c.events.at c.index-events-at.result _ _ c.events-test.true c.index-events-at.is c.events.invariant.run c.in-Err.ensures.step.1
