use Rattle.loose_orders.proofs.StepLists.{all_items, one_item_more}
use Rattle.loose_orders.proofs.moves.items.Goals as goal

pub moves-preserved : goal.moves-preserved
moves-preserved g c = one_item_more c.moves.all.items c.push.new.self.items _ c.moves.at _ c.item-made.result c.args.moves.now
    c.moves-test.true c.item-made.ensures c.in_ok-push.ensures.items c.moves.invariant

pub returns : goal.returns
returns g c = all_items c.moves.all.items _ c.moves.at c.args.moves.now c.moves-test.false c.moves.invariant
