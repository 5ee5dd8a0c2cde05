use Rattle.std.proofs.Common.{◌≡◌, true, length}
use Rattle.vm_base.specs.Cores.{members}
use Rattle.state_seen.specs.Held.{held, told_by}
use Rattle.state_seen.proofs.Told.{below}
use Rattle.state_seen.proofs.held.tell_all.Given as goal

abbrev pub invariant-cores : goal.invariant-cores
invariant-cores g l = record {
  cores : length l.all.items ≡ 64;
  held : l.whole ≡ true → held l.all.items ≡ told_by l.from (below (members l.to) l.index) l.range (held l.initial.all.items);
}
