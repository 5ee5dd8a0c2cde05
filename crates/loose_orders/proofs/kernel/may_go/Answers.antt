use Rattle.loose_orders.proofs.kernel.may_go.Goals as goal

pub returns : goal.returns
returns c = λ request e f. c.may_lag.ensures request e
