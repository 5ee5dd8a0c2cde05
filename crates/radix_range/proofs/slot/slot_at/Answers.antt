use Rattle.radix_range.proofs.TreeLaws.{is_found}
use Rattle.radix_range.proofs.slot.slot_at.Goals as goal

pub returns : goal.returns
returns g c =
    let e = c.descend-found.ensures in
    rw (e.offset, e.width, e.state) (is_found c.args.root.now c.requires.tree c.args.page c.requires.page)
