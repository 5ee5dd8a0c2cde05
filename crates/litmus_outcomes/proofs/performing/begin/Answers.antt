use Rattle.litmus_outcomes.proofs.Dues.{begun_there}
use Rattle.litmus_outcomes.proofs.performing.begin.Goals as goal

pub returns : goal.returns
returns g c = λ e n. begun_there n c.args.core c.in-Some.k c.args.request.now c.args.dues.now.items c.as_slice.result.now c.index.result.now c.index_mut.result.now
    c.as_slice.ensures.value c.in-Some.ensures c.index.ensures c.index_mut.ensures.value (c.can_begin-can.ensures.stage c.if-not-can.false)
    (c.can_begin-can.ensures.request c.if-not-can.false)
