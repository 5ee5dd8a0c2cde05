use Rattle.std.proofs.Common.{◌≡◌, take}
use Rattle.litmus_merges.specs.Finals.{loads_by}
use Rattle.litmus.proofs.opening.loads_of.Given as goal

-- the loads of the addresses so far
abbrev pub invariant-addrs : goal.invariant-addrs
invariant-addrs g l = l.loads.items ≡ loads_by 0 (take l.at l.addrs)
