use Rattle.std.proofs.Common.{reverse, None, ap, ◌∙◌}
use Rattle.live_tree.specs.Letting.{letting_view}
use Rattle.live_tree.proofs.Refilled.{turned}
use Rattle.live_tree.proofs.letting.Letting.of.Goals as goal

pub returns : goal.returns
returns g c =
    let slots = turned c.args.guards.items c.reverse.new.self (c.reverse.ensures.after ∙ ap reverse c.as_mut_slice.ensures.value) in
    ap (λ ss. letting_view ss None) slots
