use Rattle.std.proofs.Common.{◌≡◌, drop}
use Rattle.litmus_report.specs.Witness.{goes_on}
use Rattle.litmus_report.proofs.witness.goes_on.Given as goal

-- the events that are left decide
abbrev pub invariant-loop-event : goal.invariant-loop-event
invariant-loop-event l = goes_on l.core (drop l.event-index l.events) ≡ goes_on l.core l.events
