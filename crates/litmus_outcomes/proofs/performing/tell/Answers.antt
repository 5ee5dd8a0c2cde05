use Rattle.litmus_outcomes.proofs.Dues.{told_there}
use Rattle.litmus_outcomes.proofs.performing.tell.Goals as goal

pub returns : goal.returns
returns g c = λ e n. told_there n c.args.core c.in-Some.k c.args.reply c.args.dues.now.items c.as_slice.result.now c.index.result.now c.index_mut.result.now
    c.as_slice.ensures.value c.in-Some.ensures c.index.ensures c.index_mut.ensures.value (c.can_tell-can.ensures.stage c.if-not-can.false)
    (c.can_tell-can.ensures.reply c.if-not-can.false)
