use Rattle.std.proofs.Common.{arith}
use Rattle.std.proofs.lemmas.Int.{ints}
use Rattle.refcache.proofs.Read.{little_global}
use Rattle.refcache.proofs.whole.Refcache.global_count.Goals as goal

pub returns-clause-little : goal.returns-clause-little
returns-clause-little g c =
    let l = little_global c.self.inside.table c.args.self.now c.args.object c.global.result c.self.invariant c.self.view_is c.global.ensures in
    let a = l.0 in
    let b = l.1 in
    (omega (arith, ints, a, b), omega (arith, ints, a, b))
