use Rattle.std.proofs.Common.{◌+◌, arith}
use Rattle.slot_lock.specs.Slots.{between}
use Rattle.radix_node.specs.Node.{runs}
use Rattle.radix_range.proofs.Edits.{begins_at, edited_page, edited_slots}
use Rattle.radix_range.proofs.TreeLaws.{still_radix}
use Rattle.radix_range.proofs.change.edit_one.Goals as goal

pub returns-clause-tree : goal.returns-clause-tree
returns-clause-tree g c =
    still_radix c.args.root.now c.edit_one.new.self c.requires.tree c.args.page (c.args.page + 1) c.requires.page.0
    (omega (arith, c.requires.page.1))
    (edited_page (runs c.args.root.now) (runs c.edit_one.new.self) c.args.page c.args.edit.now c.edit_one.ensures.here
    c.edit_one.ensures.others).outside c.edit_one.ensures.level c.edit_one.ensures.whole

pub returns-clause-slots : goal.returns-clause-slots
returns-clause-slots g c =
    edited_slots (runs c.args.root.now) (runs c.edit_one.new.self) (between c.args.page (c.args.page + 1)) c.args.edit.now
    (edited_page (runs c.args.root.now) (runs c.edit_one.new.self) c.args.page c.args.edit.now c.edit_one.ensures.here
    c.edit_one.ensures.others)
    (begins_at c.args.root.now c.args.page c.requires.alone.begins)
