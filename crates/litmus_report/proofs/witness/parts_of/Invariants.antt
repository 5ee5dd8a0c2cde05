use Rattle.std.proofs.Common.{◌≡◌, ◌++◌, ◌-◌, ◌≤◌, List, drop, length}
use Rattle.litmus_report.specs.Witness.{StandFor}
use Rattle.litmus_report.specs.declared.witness.WitnessLine.{WitnessLine}
use Rattle.litmus_report.proofs.witness.parts_of.Given as goal

-- with parts for the events that are left they stand for all
abbrev pub invariant-events : goal.invariant-events
invariant-events g l = record {
  within : l.at ≤ length l.events;
  stand : (ps : List WitnessLine) → StandFor ps (drop l.at l.events) → StandFor (l.parts.items ++ ps) l.events;
}

abbrev pub decreases-events : goal.decreases-events
decreases-events g l = length l.events - l.at
