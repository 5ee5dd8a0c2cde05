use Rattle.std.proofs.Common.{◌≡◌}
use Rattle.import_lines.specs.Made.{process_within, process_of}
use Rattle.import_lines.proofs.made.process_of.Given as goal

abbrev pub invariant-makers : goal.invariant-makers
invariant-makers l = process_within l.made l.more l.thread ≡ process_of l.made l.initial.thread

abbrev pub decreases-makers : goal.decreases-makers
decreases-makers l = l.more
