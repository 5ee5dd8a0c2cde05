use Rattle.litmus_merges.proofs.Ended.{longer_way, nearer}
use Rattle.litmus_merges.proofs.Lists.{get_read}
use Rattle.litmus_merges.proofs.ending.order_to.Goals as goal

pub back-preserved : goal.back-preserved
back-preserved g c =
    let i = c.back.invariant in
    let is = get_read c.args.nodes.now c.back.at c.index-nodes-at.result i.within c.index-nodes-at.is in
    record {
      within = nearer c.args.nodes.now c.back.at c.index-nodes-at.result c.requires.backward is c.back-test.true i.within;
      way = longer_way c.args.nodes.now c.back.at c.args.last c.index-nodes-at.result c.back.order.items c.insert.new.self.items c.back-test.true is
          c.in_ok-insert.ensures.items i.way;
    }

pub back-smaller : goal.back-smaller
back-smaller g c =
    let i = c.back.invariant in
    let is = get_read c.args.nodes.now c.back.at c.index-nodes-at.result i.within c.index-nodes-at.is in
    c.requires.backward c.back.at c.index-nodes-at.result is c.back-test.true
