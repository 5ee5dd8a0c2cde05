use Rattle.std.proofs.Common.{◌≡◌, Some, map, take}
use Rattle.litmus_merges.proofs.ending.all_told.Given as goal

-- the replies so far
abbrev pub invariant-calls : goal.invariant-calls
invariant-calls g l = take l.k l.told ≡ map Some l.replies.items
