use Rattle.std.proofs.Common.{length}
use Rattle.trace_io.specs.Lines.{lines_of}
use Rattle.trace.specs.Numbered.{texts_of}
use Rattle.state_changes.proofs.Walking.{Walk}
use Rattle.state_changes.proofs.behind.changes_of.Given as goal

abbrev pub invariant-lines : goal.invariant-lines
invariant-lines l = record {
  walk : Walk (lines_of l.trace) l.recorder (texts_of l.texts.items) (lines_of l.rest) l.left l.text.items;
}

abbrev pub decreases-lines : goal.decreases-lines
decreases-lines l = length l.rest
