use Rattle.litmus_merges.proofs.Lists.{get_read}
use Rattle.litmus_merges.proofs.nodes.is_at.Goals as goal

pub returns : goal.returns
returns g c = λ h.
    let same = c.is_alike.ensures h in
    (c.args.k, c.index-nodes-k.result, get_read c.args.nodes.now c.args.k c.index-nodes-k.result c.requires c.index-nodes-k.is, same.0, same.1)
