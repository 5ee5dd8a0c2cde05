use Rattle.std.proofs.Common.{◌≤◌, ◌-◌, length}
use Rattle.import_lines.specs.Told.{Hears}
use Rattle.import_lines.proofs.told.hear_all.Given as goal

abbrev pub invariant-lines : goal.invariant-lines
invariant-lines g l = record { within : l.at ≤ length l.lines; heard : Hears l.lines l.at l.heard }

abbrev pub decreases-lines : goal.decreases-lines
decreases-lines g l = length l.lines - l.at
