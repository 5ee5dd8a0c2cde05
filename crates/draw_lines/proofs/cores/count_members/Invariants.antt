use Rattle.std.proofs.Common.{◌≡◌, ◌≤◌}
use Rattle.vm_base.specs.Cores.{members}
use Rattle.draw_lines.specs.Cores.{count_members}
use Rattle.draw_lines.proofs.cores.count_members.Given as goal

abbrev pub invariant-cores : goal.invariant-cores
invariant-cores l = record { count : l.count ≡ count_members (members l.set) l.index; few : l.count ≤ l.index }
