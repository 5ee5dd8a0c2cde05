use Rattle.std.proofs.Common.{sym, ◌∙◌}
use Rattle.state_seen.proofs.Ordered.{absent, left_at, taken_above, taken_at}
use Rattle.state_seen.proofs.list.drop_page.Goals as goal

pub returns-then-is_there-clause-order : goal.returns-then-is_there-clause-order
returns-then-is_there-clause-order g c =
    taken_above c.args.entries.now.items c.remove.new.self.items c.place_of-place.result c.remove.ensures.items c.requires

pub returns-then-is_there-clause-at : goal.returns-then-is_there-clause-at
returns-then-is_there-clause-at g c =
    taken_at c.args.entries.now.items c.remove.new.self.items c.place_of-place.result c.args.page c.remove.ensures.items c.requires
    (sym (rw c.as_slice-2.ensures.value at c.is_there.ensures) ∙ c.if-is_there.true)

pub returns-else-is_there-clause-at : goal.returns-else-is_there-clause-at
returns-else-is_there-clause-at g c = left_at c.args.entries.now.items c.args.page
    (absent 0 c.args.entries.now.items c.place_of-place.result c.args.page c.requires
    (rw c.as_slice.ensures.value at c.place_of-place.ensures.below) (rw c.as_slice.ensures.value at c.place_of-place.ensures.above)
    (sym (rw c.as_slice-2.ensures.value at c.is_there.ensures) ∙ c.if-is_there.false))
