use Rattle.std.proofs.Common.{arith}
use Rattle.radix_node.specs.Node.{runs}
use Rattle.radix_range.proofs.Walks.{of_root}
use Rattle.radix_range.proofs.Edits.{begins_at, edited_slots}
use Rattle.radix_range.proofs.TreeLaws.{still_radix}
use Rattle.radix_range.proofs.change.edit_range.Goals as goal

pub edit-requires-clause-within : goal.edit-requires-clause-within
edit-requires-clause-within g c = of_root c.args.root.now c.requires.tree c.args.range.end (omega (arith, c.requires.pages.high))

pub edit-requires-clause-begins : goal.edit-requires-clause-begins
edit-requires-clause-begins g c = begins_at c.args.root.now c.args.range.first c.requires.cut.begins

pub edit-requires-clause-ends : goal.edit-requires-clause-ends
edit-requires-clause-ends g c = begins_at c.args.root.now c.args.range.end c.requires.cut.ends

pub returns-clause-tree : goal.returns-clause-tree
returns-clause-tree g c =
    still_radix c.args.root.now c.edit.new.self c.requires.tree c.args.range.first c.args.range.end c.requires.pages.low c.requires.pages.high
    c.edit.ensures.outside c.edit.ensures.level c.edit.ensures.whole

pub returns-clause-slots : goal.returns-clause-slots
returns-clause-slots g c =
    edited_slots (runs c.args.root.now) (runs c.edit.new.self) c.args.range c.args.edit.now
    (record { inside = c.edit.ensures.inside; outside = c.edit.ensures.outside }) (begins_at c.args.root.now c.args.range.first c.requires.cut.begins)
