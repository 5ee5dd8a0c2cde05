use Rattle.std.proofs.Common.{◌≤◌, length}
use Rattle.overlapping.proofs.found.objects_of.Given as goal

abbrev pub invariant-loop-file : goal.invariant-loop-file
invariant-loop-file g l = length l.files.items ≤ 16
