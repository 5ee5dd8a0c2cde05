use Rattle.radix_range.specs.Tree.{tree_slots}
use Rattle.radix_range.proofs.Known.{after_change}
use Rattle.radix_range.proofs.radix_map.RadixMap.make.Goals as goal

pub note_change-requires-clause-full : goal.note_change-requires-clause-full
note_change-requires-clause-full g c =
    rw c.change.ensures.slots (c.with_change-self.ensures (tree_slots c.args.self.now.root) c.args.self.now.known.mapped)

pub note_change-requires-clause-before : goal.note_change-requires-clause-before
note_change-requires-clause-before g c = (tree_slots c.args.self.now.root, c.change.ensures.slots, c.args.self.now.known.tight)

pub invariant_of-self-clause-known : goal.invariant_of-self-clause-known
invariant_of-self-clause-known g c = after_change (tree_slots c.args.self.now.root) (tree_slots c.change.new.root) c.args.change
    c.with_change-self.result c.note_change.new.tights.items c.change.ensures.slots
    (c.with_change-self.ensures (tree_slots c.args.self.now.root) c.args.self.now.known.mapped) c.note_change.ensures
