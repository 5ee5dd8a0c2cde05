use Rattle.std.proofs.Common.{[], length}
use Rattle.state_changes.specs.Marks.{PassesOn}
use Rattle.state_changes.proofs.marks.put_all_gone.Given as goal

abbrev pub invariant-lines : goal.invariant-lines
invariant-lines l = record {
  passes : PassesOn l.initial.out.items l.out.items l.old l.rest [] [];
}

abbrev pub decreases-lines : goal.decreases-lines
decreases-lines l = length l.rest
