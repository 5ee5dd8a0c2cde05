use Rattle.std.proofs.Common.{◌≤◌, ◌-◌, length}
use Rattle.word_import.proofs.importing.tell_parts.Given as goal

abbrev pub invariant-parts : goal.invariant-parts
invariant-parts g l = l.at ≤ length l.parts

abbrev pub decreases-parts : goal.decreases-parts
decreases-parts g l = length l.parts - l.at
