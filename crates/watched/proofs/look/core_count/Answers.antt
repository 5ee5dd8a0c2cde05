use Rattle.machine_model.proofs.Words.{◌≡◌, arith, sym, true, false, members}
use Rattle.watched.proofs.Counting.{count_at, count_none}
use Rattle.watched.proofs.look.core_count.Goals as goal
use Rattle.watched.proofs.look.core_count.Goals.{then-contains, else-contains}

pub cores-init : goal.cores-init
cores-init c = record { count = sym (count_none (members c.args.set)); few = omega arith }

pub cores-preserved : goal.cores-preserved
cores-preserved c = elim c.if-contains.branch [
  | then-contains w ↦
      let e : members c.args.set c.cores.index ≡ true = cc (w.if-contains.true) in
      let n = count_at (members c.args.set) c.cores.index true e in
      record { count = omega arith; few = omega arith }
  | else-contains w ↦
      let e : members c.args.set c.cores.index ≡ false = cc (w.if-contains.false) in
      let n = count_at (members c.args.set) c.cores.index false e in
      record { count = omega arith; few = omega arith }
]
