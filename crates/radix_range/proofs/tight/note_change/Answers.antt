use Rattle.radix_range.specs.Tree.{tree_slots}
use Rattle.radix_range.proofs.NoRoom.{after_put, put_mapped, after_clear, after_protect}
use Rattle.radix_range.proofs.tight.note_change.Goals as goal

pub note_room-requires-clause-tights : goal.note_room-requires-clause-tights
note_room-requires-clause-tights g c =
    after_put c.requires.before.0 (tree_slots c.args.root.now) c.args.change c.in-Put.range c.in-Put.meta c.args.tights.now.items c.in-Put.is
    c.requires.before.1 c.requires.before.2

pub note_room-requires-clause-mapped : goal.note_room-requires-clause-mapped
note_room-requires-clause-mapped g c =
    put_mapped c.requires.before.0 (tree_slots c.args.root.now) c.args.change c.in-Put.range c.in-Put.meta c.in-Put.is c.requires.before.1

pub forget_opened-requires-clause-tights : goal.forget_opened-requires-clause-tights
forget_opened-requires-clause-tights g c =
    after_clear c.requires.before.0 (tree_slots c.args.root.now) c.args.change c.in-Clear.range c.args.tights.now.items c.in-Clear.is
    c.requires.before.1 c.requires.before.2

pub returns-else-sought-range : goal.returns-else-sought-range
returns-else-sought-range g c =
    after_put c.requires.before.0 (tree_slots c.args.root.now) c.args.change c.in-Put.range c.in-Put.meta c.args.tights.now.items c.in-Put.is
    c.requires.before.1 c.requires.before.2

pub returns-in-Protect : goal.returns-in-Protect
returns-in-Protect g c =
    after_protect c.requires.before.0 (tree_slots c.args.root.now) c.args.change c.in-Protect.range c.in-Protect.prot c.args.tights.now.items
    c.in-Protect.is c.requires.before.1 c.requires.before.2
