use Rattle.machine_model.specs.declared.event.Event.TheVariants.{Go}
use Rattle.litmus_outcomes.proofs.Steps.{GoesOn}
use Rattle.litmus_outcomes.proofs.driving.go_on.Given as goal

-- the steps so far
abbrev pub invariant-steps : goal.invariant-steps
invariant-steps g l = GoesOn l.fn.events.items (Go l.core) l.events.items
