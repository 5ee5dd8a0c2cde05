use Rattle.std.proofs.Common.{◌<◌, length, negsuc, sym, subst}
use Rattle.refcache.specs.Steps.{Dec, Takes}
use Rattle.refcache.specs.Parts.{counts_of}
use Rattle.refcache.proofs.Sound.{ready, sound_on}
use Rattle.refcache.proofs.Reached.{adds_again, same_size}
use Rattle.refcache.proofs.whole.Refcache.dec.Goals as goal

pub count-requires-clause-ready : goal.count-requires-clause-ready
count-requires-clause-ready g c =
    let p = c.self.inside.table in
    let at : c.args.core < length p.cores = subst (λ v. c.args.core < length v.cores) (sym c.self.view_is) c.requires.core in
    λ o has. ready p c.index.result o c.self.invariant (subst (λ k. k < length p.cores) (sym c.index.ensures.value) at) has

pub invariant_of-self : goal.invariant_of-self
invariant_of-self g c =
    let p = c.self.inside.table in
    let v = c.args.self.now in
    let step = Dec c.args.core c.args.object in
    let takes : Takes (counts_of v) step (counts_of c.count.new.self) =
    adds_again p v c.count.new.self c.args.core c.index.result c.args.object (negsuc 0) c.self.view_is c.index.ensures.value
    c.requires.core c.requires.object c.requires.used c.count.ensures.counts in
    sound_on p c.count.new.self step c.self.invariant (subst (λ u. Takes (counts_of u) step (counts_of c.count.new.self)) (sym c.self.view_is) takes)
    c.count.ensures.room c.count.ensures.epochs

pub returns-clause-step : goal.returns-clause-step
returns-clause-step g c =
    let p = c.self.inside.table in
    let v = c.args.self.now in
    adds_again p v c.count.new.self c.args.core c.index.result c.args.object (negsuc 0) c.self.view_is c.index.ensures.value
    c.requires.core c.requires.object c.requires.used c.count.ensures.counts

pub returns-clause-size : goal.returns-clause-size
returns-clause-size g c =
    let p = c.self.inside.table in
    let v = c.args.self.now in
    same_size (counts_of v) (Dec c.args.core c.args.object) (counts_of c.count.new.self)
    (adds_again p v c.count.new.self c.args.core c.index.result c.args.object (negsuc 0) c.self.view_is c.index.ensures.value
    c.requires.core c.requires.object c.requires.used c.count.ensures.counts)
