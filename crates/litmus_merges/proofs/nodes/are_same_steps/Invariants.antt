use Rattle.std.proofs.Common.{◌≡◌, take}
use Rattle.litmus_merges.proofs.nodes.are_same_steps.Given as goal

abbrev pub invariant-steps : goal.invariant-steps
invariant-steps l = take l.k l.one ≡ take l.k l.other
