use Rattle.shared.proofs.Halting.{given_up_ends, given_up_refused}
use Rattle.shared.proofs.calling.call_given_up.Goals as goal

pub returns-in-Ok-clause-ends : goal.returns-in-Ok-clause-ends
returns-in-Ok-clause-ends g c =
    given_up_ends _ _ c.args.core _ c.in-Ok.finished _ _ c.step-given_up.ensures.step c.in-Ok.ensures.ends c.ended_by.ensures

pub returns-in-Err-clause-ends : goal.returns-in-Err-clause-ends
returns-in-Err-clause-ends g c = given_up_refused g.L.Ledger.keeps _ _ c.args.core _ _ c.step-given_up.ensures.step c.in-Err.ensures.err
