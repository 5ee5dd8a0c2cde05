use Rattle.std.proofs.Common.{◌≡◌, arith, sym, true, false}
use Rattle.vm_base.specs.Cores.{members}
use Rattle.live_pages.proofs.Targets.{count_none, count_at}
use Rattle.live_pages.proofs.telling.count_of.Goals as goal
use Rattle.live_pages.proofs.telling.count_of.Goals.{then-contains, else-contains}

pub cores-init : goal.cores-init
cores-init c = record { count = sym (count_none c.args.set); few = omega arith }

pub cores-preserved : goal.cores-preserved
cores-preserved c = elim c.if-contains.branch [
  | then-contains w ↦
      let e : members c.args.set c.cores.index ≡ true = cc (w.if-contains.true) in
      let n = count_at c.args.set c.cores.index true e in
      record { count = omega arith; few = omega arith }
  | else-contains w ↦
      let e : members c.args.set c.cores.index ≡ false = cc (w.if-contains.false) in
      let n = count_at c.args.set c.cores.index false e in
      record { count = omega arith; few = omega arith }
]
