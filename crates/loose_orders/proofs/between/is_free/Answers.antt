use Rattle.std.proofs.Common.{arith}
use Rattle.loose_orders.proofs.BetweenLemmas.{free_more, lasts_first, lasts_more, unbound}
use Rattle.loose_orders.proofs.between.is_free.Goals as goal

pub between-init : goal.between-init
between-init c = record {
  free = λ x above below. absurd (omega (arith, above, below));
  lasts = lasts_first c.args.history.now c.args.moves.now c.args.place c.end_at-ended.result c.end_at-ended.ensures;
}

pub between-preserved : goal.between-preserved
between-preserved c = record {
  free = free_more c.args.history.now c.args.moves.now c.args.place c.between.at c.args.page c.between.ended c.args.call.now
      c.between.invariant.free c.between.invariant.lasts (λ d code s x y z. c.binds_at.ensures d code c.if-binds_at.false s x y z);
  lasts = lasts_more c.args.history.now c.args.moves.now c.args.place c.between.at c.between.ended c.end_at-end.result c.earlier-ended.result
      c.between.invariant.lasts c.end_at-end.ensures c.earlier-ended.ensures.first c.earlier-ended.ensures.second;
}

pub returns : goal.returns
returns c = λ request e. unbound c.args.history.now c.args.moves.now c.args.place c.args.now c.between.at c.args.page request c.args.call.now
    (omega (arith, c.between-test.false)) c.between.invariant.free
