use Rattle.loose_orders.proofs.BetweenLemmas.{fetch_lags}
use Rattle.loose_orders.proofs.between.may_lag.Goals as goal

pub returns-then-is_refused_fetch : goal.returns-then-is_refused_fetch
returns-then-is_refused_fetch c = λ request e. fetch_lags c.args.moving c.args.history.now c.args.moves.now c.args.place c.args.now c.args.page request
    c.args.call.now (c.is_refused_fetch.ensures.fetch c.if-is_refused_fetch.true) (c.is_refused_fetch.ensures.code c.if-is_refused_fetch.true)
