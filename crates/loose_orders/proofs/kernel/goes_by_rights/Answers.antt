use Rattle.loose_orders.proofs.kernel.goes_by_rights.Goals as goal

pub returns-clause-yes : goal.returns-clause-yes
returns-clause-yes g c = λ e. (
  c.is_unseen-unseen.result,
  c.is_unseen-unseen.ensures,
  (λ request. c.may_go.ensures request c.if-not-may_go.false),
  c.in_ok-goes.ensures.yes e,
)
