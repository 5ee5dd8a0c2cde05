use Rattle.std.proofs.Common.{◌+◌, length}
use Rattle.state_changes.specs.Marks.{PassesOn}
use Rattle.state_changes.proofs.marks.put_marks.Given as goal

-- what was passed so far was said
abbrev pub invariant-both : goal.invariant-both
invariant-both l = record {
  passes : PassesOn l.initial.out.items l.out.items l.before l.old l.after l.new;
}

abbrev pub decreases-both : goal.decreases-both
decreases-both l = length l.old + length l.new
