use Rattle.orders.proofs.PartLemmas.{all_chosen, one_chosen_more}
use Rattle.orders.proofs.choosing.chosen.Goals as goal

pub parts-preserved : goal.parts-preserved
parts-preserved g c = one_chosen_more c.args.parts.now c.parts.calls.items c.push.new.self.items c.parts.at c.index-parts-at.result _ c.parts-test.true
    c.index-parts-at.is c.one_chosen-call.ensures c.in_ok-push.ensures.items c.parts.invariant

pub returns : goal.returns
returns g c = all_chosen c.args.parts.now c.parts.calls.items c.parts.at c.parts-test.false c.parts.invariant
