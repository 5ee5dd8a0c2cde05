use Rattle.std.proofs.Common.{◌∙◌, Some}
use Rattle.radix_node.specs.declared.edit.Edit.TheVariants.{Put}
use Rattle.slot_lock.proofs.ListLaws.{info_from_zero}
use Rattle.radix_range.specs.Tree.{tree_slots}
use Rattle.radix_range.proofs.Edits.{edited_one}
use Rattle.radix_range.proofs.change.set_info.Goals as goal

pub returns-clause-slots : goal.returns-clause-slots
returns-clause-slots g c =
    let s = tree_slots c.args.root.now in
    c.edit_one.ensures.slots ∙ edited_one s c.args.page (Put (Some c.args.info)) (Some c.args.info) (info_from_zero (Some c.args.info))
