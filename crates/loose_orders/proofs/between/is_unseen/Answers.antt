use Rattle.std.proofs.Common.{ℕ}
use Rattle.orders.specs.declared.history.Timed.{Timed}
use Rattle.loose_orders.specs.Kernel.{Sees}
use Rattle.loose_orders.proofs.BetweenLemmas.{none_more}
use Rattle.loose_orders.proofs.between.is_unseen.Goals as goal

pub between-preserved : goal.between-preserved
between-preserved c = none_more (λ (x : ℕ) (d : Timed). Sees c.args.history.now c.args.moves.now x c.args.page d) c.args.place c.between.at c.seen_by.result
    c.between.invariant c.seen_by.ensures c.in_default.is
