use Rattle.std.proofs.Common.{◌≡◌, take}
use Rattle.litmus_merges.proofs.ending.are_same.Given as goal

abbrev pub invariant-replies : goal.invariant-replies
invariant-replies l = take l.k l.one ≡ take l.k l.other
