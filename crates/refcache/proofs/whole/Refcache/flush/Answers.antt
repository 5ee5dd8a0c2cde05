use Rattle.std.proofs.Common.{◌<◌, length, sym, subst}
use Rattle.refcache.specs.Steps.{Flushing}
use Rattle.refcache.proofs.Sound.{ready, sound_on}
use Rattle.refcache.proofs.whole.Refcache.flush.Goals as goal

pub invariant_of-self : goal.invariant_of-self
invariant_of-self g c =
    let p = c.self.inside.table in
    let at : c.args.core < length p.cores = subst (λ v. c.args.core < length v.cores) (sym c.self.view_is) c.requires in
    sound_on p c.flush.new.self (Flushing c.args.core c.flush.result) c.self.invariant (at, c.flush.ensures.flushes) c.flush.ensures.room c.flush.ensures.epochs

pub flush-requires-clause-ready : goal.flush-requires-clause-ready
flush-requires-clause-ready g c =
    let p = c.self.inside.table in
    let at : c.args.core < length p.cores = subst (λ v. c.args.core < length v.cores) (sym c.self.view_is) c.requires in
    λ o has. ready p c.args.core o c.self.invariant at has
