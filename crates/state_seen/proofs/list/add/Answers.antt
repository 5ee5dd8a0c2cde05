use Rattle.std.proofs.Common.{rules, sym, ◌∙◌}
use Rattle.state_seen.proofs.Ordered.{inserted_above, inserted_at}
use Rattle.state_seen.proofs.list.add.Goals as goal

pub returns-clause-order : goal.returns-clause-order
returns-clause-order g c =
    inserted_above _ c.args.entries.now.items c.insert.new.self.items c.place_of-place.result c.args.page c.args.value c.insert.ensures.items
    c.requires.order (search rules) (rw c.as_slice.ensures.value at c.place_of-place.ensures.within)
    (rw c.as_slice.ensures.value at c.place_of-place.ensures.below) (rw c.as_slice.ensures.value at c.place_of-place.ensures.above) c.requires.new

pub returns-clause-at : goal.returns-clause-at
returns-clause-at g c = λ e.
    inserted_at _ c.args.entries.now.items c.insert.new.self.items c.place_of-place.result c.args.page c.args.value c.insert.ensures.items
    (sym c.is_ok.ensures.value ∙ e) c.requires.new
