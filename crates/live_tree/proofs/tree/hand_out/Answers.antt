use Rattle.live_tree.proofs.Gathered.{chain_is}
use Rattle.live_tree.proofs.tree.hand_out.Goals as goal

pub new-requires : goal.new-requires
new-requires g c = chain_is c.args.kept.now c.in_ok-slots.slots.items c.in_ok-slots.ensures c.requires
