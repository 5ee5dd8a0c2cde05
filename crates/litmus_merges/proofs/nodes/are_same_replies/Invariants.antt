use Rattle.std.proofs.Common.{◌≡◌, take}
use Rattle.litmus_merges.proofs.nodes.are_same_replies.Given as goal

abbrev pub invariant-replies : goal.invariant-replies
invariant-replies l = take l.k l.one ≡ take l.k l.other
