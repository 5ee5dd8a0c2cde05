use Rattle.std.proofs.Common.{◌≡◌, take}
use Rattle.litmus_merges.proofs.mappings.are_same_maps.Given as goal

abbrev pub invariant-lines : goal.invariant-lines
invariant-lines l = take l.k l.one ≡ take l.k l.other
