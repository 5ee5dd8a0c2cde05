use Rattle.std.proofs.Common.{arith}
use Rattle.loose_orders.proofs.BetweenLemmas.{goes_on_there, lets_more}
use Rattle.loose_orders.proofs.between.goes_on.Goals as goal

pub between-preserved : goal.between-preserved
between-preserved c = lets_more c.args.history.now c.args.moves.now c.args.place c.between.at c.args.change.now c.in-Some.one c.timed_at.result
    c.between.invariant c.timed_at.ensures c.in-Some.is (c.lets.ensures.time c.if-not-lets.false) (c.lets.ensures.pages c.if-not-lets.false)

pub returns : goal.returns
returns c = λ e. goes_on_there c.args.history.now c.args.moves.now c.args.place c.args.now c.between.at c.args.change.now
    c.in-Some-timed_at.last c.timed_at-2.result (omega (arith, c.if-place-now.false)) (omega
    (arith, c.between-test.false)) c.between.invariant c.timed_at-2.ensures
    c.in-Some-timed_at.is (omega (arith, c.if-change-begun.false))
