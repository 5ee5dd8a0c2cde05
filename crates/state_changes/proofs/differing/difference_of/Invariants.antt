use Rattle.std.proofs.Common.{◌+◌, length}
use Rattle.state_changes.proofs.Parts.{IsPartWay}
use Rattle.state_changes.proofs.differing.difference_of.Given as goal

abbrev pub invariant-parts : goal.invariant-parts
invariant-parts l = record {
  way : IsPartWay l.parts.items l.added.items l.before l.old l.after l.new;
}

abbrev pub decreases-parts : goal.decreases-parts
decreases-parts l = length l.old + length l.new
