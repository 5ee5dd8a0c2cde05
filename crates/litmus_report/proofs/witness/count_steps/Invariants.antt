use Rattle.std.proofs.Common.{◌≡◌, ◌+◌, ◌++◌, ◌-◌, ◌≤◌, drop, length, replicate}
use Rattle.machine_model.specs.declared.event.Event.TheVariants.{Go}
use Rattle.litmus_report.proofs.witness.count_steps.Given as goal

-- those so far are steps of the core
abbrev pub invariant-steps : goal.invariant-steps
invariant-steps l = record {
  within : l.from + l.count ≤ length l.events;
  steps : drop l.from l.events ≡ replicate l.count (Go l.core) ++ drop (l.from + l.count) l.events;
}

abbrev pub decreases-steps : goal.decreases-steps
decreases-steps l = length l.events - l.count
