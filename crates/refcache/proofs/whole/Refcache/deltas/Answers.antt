use Rattle.std.proofs.Common.{arith}
use Rattle.std.proofs.lemmas.Int.{ints, to_z-of_z}
use Rattle.refcache.proofs.Read.{sum_none, sum_more}
use Rattle.refcache.proofs.whole.Refcache.deltas.Goals as goal

pub cores-init : goal.cores-init
cores-init g c = (sum_none _, omega (arith, ints), omega (arith, ints), c.cores-core-end.ensures.few)

pub cores-preserved : goal.cores-preserved
cores-preserved g c =
    (grind (arith, ints, to_z-of_z, sum_more), omega (arith, ints), omega (arith, ints), omega arith)
