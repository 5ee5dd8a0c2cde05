use Rattle.std.proofs.Common.{◌≡◌, length}
use Rattle.std.specs.List.{list_any}
use Rattle.std.specs.Str.{bytes_eq}
use Rattle.trace_io.specs.Lines.{lines_of}
use Rattle.state_changes.proofs.marks.stands_in.Given as goal

abbrev pub invariant-lines : goal.invariant-lines
invariant-lines l = list_any (bytes_eq l.line) (lines_of l.rest) ≡ list_any (bytes_eq l.line) (lines_of l.text)

abbrev pub decreases-lines : goal.decreases-lines
decreases-lines l = length l.rest
