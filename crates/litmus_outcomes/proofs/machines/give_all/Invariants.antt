use Rattle.machine_model.proofs.Words.{take, Run}
use Rattle.core_steps.specs.Machine.{state}
use Rattle.litmus_outcomes.proofs.machines.give_all.Given as goal

-- the run so far
abbrev pub invariant-events : goal.invariant-events
invariant-events g l = Run (state l.fn.machine) (take l.at l.events) l.results.items (state l.machine)
