use Rattle.std.proofs.Common.{take}
use Rattle.litmus_merges.specs.Finals.{AreShown}
use Rattle.litmus_merges.specs.Steps.{map_of}
use Rattle.litmus_merges.proofs.finals.loads.Given as goal

-- what the addresses so far show
abbrev pub invariant-addrs : goal.invariant-addrs
invariant-addrs g l = AreShown (map_of l.objects l.steps) (take l.k l.addrs) l.replies.items
