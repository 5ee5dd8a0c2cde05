use Rattle.std.proofs.Common.{◌≡◌}
use Rattle.vm_base.specs.Cores.{members}
use Rattle.draw_records.specs.Looking.{cores_where}
use Rattle.draw_records.proofs.looking.cores_of.Given as goal

abbrev pub invariant-cores : goal.invariant-cores
invariant-cores l = record { cores : l.cores ≡ cores_where (members l.set) l.index }
