use Rattle.radix_range.specs.Tree.{tree_slots}
use Rattle.radix_range.proofs.Known.{one_info}
use Rattle.radix_range.proofs.radix_map.RadixMapSlotMap.set_leaf.Goals as goal

pub invariant_of-self-clause-known : goal.invariant_of-self-clause-known
invariant_of-self-clause-known g c = rw c.set_info.ensures.slots
    (one_info (tree_slots c.args.self.now.root) c.args.page c.args.info c.args.self.now.full c.args.self.now.tights.items c.args.self.now.known)
