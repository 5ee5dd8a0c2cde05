use Rattle.shared.proofs.Halting.{let_go_ends, let_go_refused}
use Rattle.shared.proofs.calling.call_waited.Goals as goal

pub returns-in-Ok-clause-ends : goal.returns-in-Ok-clause-ends
returns-in-Ok-clause-ends g c = let_go_ends _ _ c.args.core c.in-Ok.finished _ _ c.take_all.ensures.lets_go c.in-Ok.ensures.ends c.ended_by.ensures

pub returns-in-Err-clause-ends : goal.returns-in-Err-clause-ends
returns-in-Err-clause-ends g c =
    let_go_refused g.L.Ledger.keeps _ _ c.args.core _ _ _ c.take_all.ensures.lets_go c.in-Err.ensures.err c.call_given_up.ensures.ends
