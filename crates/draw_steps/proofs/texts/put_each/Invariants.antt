use Rattle.std.proofs.Common.{◌≡◌, ◌++◌, take}
use Rattle.std.specs.List.{flat_map}
use Rattle.draw_steps.proofs.texts.put_each.Given as goal

abbrev pub invariant-items : goal.invariant-items
invariant-items g l = l.out.items ≡ l.initial.out.items ++ flat_map (g.T.Drawable.text l.board) (take l.item-index l.items)
