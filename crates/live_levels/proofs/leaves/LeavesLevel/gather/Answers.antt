use Rattle.live_levels.proofs.Chains.{grew_trans}
use Rattle.live_levels.proofs.leaves.LeavesLevel.gather.Goals as goal

pub slots-preserved : goal.slots-preserved
slots-preserved g c = grew_trans c.args.next c.slots.at c.in-Some.end c.args.slots.now.items c.slots.slots.items _ c.slots.invariant c.in-Some.ensures.place
