use Rattle.refcache.specs.Steps.{Begin}
use Rattle.refcache.proofs.Sound.{sound_on}
use Rattle.refcache.proofs.whole.Refcache.begin.Goals as goal

pub invariant_of-self : goal.invariant_of-self
invariant_of-self g c = sound_on c.self.inside.table c.begin.new.self (Begin c.args.object c.args.count) c.self.invariant
    c.begin.ensures.counts c.begin.ensures.room c.begin.ensures.epochs
