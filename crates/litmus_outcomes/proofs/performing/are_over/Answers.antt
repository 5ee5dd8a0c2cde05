use Rattle.litmus_outcomes.proofs.Dues.{over_end, over_more}
use Rattle.litmus_outcomes.proofs.performing.are_over.Goals as goal

pub dues-preserved : goal.dues-preserved
dues-preserved c = λ n. over_more n c.args.dues.now c.dues.k c.index-dues-k.result c.dues-test.true c.index-dues-k.is
    (c.is_over.ensures c.if-not-is_over.false) (c.dues.invariant n)

pub returns : goal.returns
returns c = λ e n. over_end n c.args.dues.now c.dues.k c.dues-test.false (c.dues.invariant n)
