use Rattle.live_levels.proofs.Chains.{grew_trans}
use Rattle.live_levels.proofs.inner.InnerLevel.gather.Goals as goal

pub places-preserved : goal.places-preserved
places-preserved g c = grew_trans c.args.next c.places.at c.in-Some.end c.args.slots.now.items c.places.slots.items _ c.places.invariant c.in-Some.ensures
