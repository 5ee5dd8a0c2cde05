use Rattle.std.proofs.Common.{◌≡◌, arith, sym, true, false}
use Rattle.vm_base.specs.Cores.{members}
use Rattle.draw_lines.proofs.Counting.{count_at, count_none}
use Rattle.draw_lines.proofs.cores.count_members.Goals as goal
use Rattle.draw_lines.proofs.cores.count_members.Goals.{then-contains, else-contains}

pub cores-init : goal.cores-init
cores-init c = record { count = sym (count_none (members c.args.set)); few = omega arith }

pub cores-preserved : goal.cores-preserved
cores-preserved c = elim c.if-contains.branch [
  | then-contains w ↦
      let e : members c.args.set c.cores.index ≡ true = cc (w.if-contains.true) in
      let n = count_at (members c.args.set) c.cores.index true e in
      record { count = omega arith; few = omega arith }
  | else-contains w ↦
      let e : members c.args.set c.cores.index ≡ false = cc (w.if-contains.false) in
      let n = count_at (members c.args.set) c.cores.index false e in
      record { count = omega arith; few = omega arith }
]
