use Rattle.machine_model.proofs.Words.{◌-◌, ◌≤◌, ◌^◌, StepsTo}
use Rattle.core_steps.specs.Machine.{state}
use Rattle.watched.proofs.Watched.{WatchesSteps}
use Rattle.watched.proofs.watch.Watch.finish.Given as goal

-- the steps so far
abbrev pub invariant-steps : goal.invariant-steps
invariant-steps g l = record {
  few : l.n ≤ 2 ^ 40;
  made : StepsTo (state l.initial.machine) l.core l.n (state l.machine);
  watched : WatchesSteps g.Self.Watch.after l.initial.self (state l.initial.machine) l.core l.n (state l.machine) l.self;
}

abbrev pub decreases-steps : goal.decreases-steps
decreases-steps g l = 2 ^ 40 - l.n
