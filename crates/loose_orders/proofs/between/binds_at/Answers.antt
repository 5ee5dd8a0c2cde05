use Rattle.loose_orders.proofs.BetweenLemmas.{begun_before, binds_not, none_there}
use Rattle.loose_orders.proofs.between.binds_at.Goals as goal

pub returns-then-not-binds : goal.returns-then-not-binds
returns-then-not-binds c = λ d code e s x y z. binds_not c.args.history.now c.args.moves.now c.args.place c.args.page c.args.ended c.args.call.now
    c.in-Some.by c.seen_by.result c.binds.result c.seen_by.ensures c.in-Some.is c.binds.ensures c.if-not-binds.true d code s x y z

pub returns-then-begun-ended : goal.returns-then-begun-ended
returns-then-begun-ended c = λ d code e s x y z. begun_before c.args.history.now c.args.moves.now c.args.place c.args.page c.args.ended
    c.in-Some.by c.seen_by.result c.seen_by.ensures c.in-Some.is c.if-begun-ended.true d s

pub returns-in_default : goal.returns-in_default
returns-in_default c = λ d code e s x y z. none_there c.seen_by.result d c.in_default.is (c.seen_by.ensures d s)
