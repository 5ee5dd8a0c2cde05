use Rattle.std.proofs.Common.{◌≡◌, ◌++◌, length}
use Rattle.trace_io.specs.Lines.{lines_of}
use Rattle.state_changes.specs.Data.{groups_text}
use Rattle.state_changes.proofs.data.put_groups.Given as goal

abbrev pub invariant-lines : goal.invariant-lines
invariant-lines l = record {
  same : l.out.items ++ groups_text (lines_of l.rest) l.left ≡ l.initial.out.items ++ groups_text (lines_of l.trace) l.moments;
}

abbrev pub decreases-lines : goal.decreases-lines
decreases-lines l = length l.rest
