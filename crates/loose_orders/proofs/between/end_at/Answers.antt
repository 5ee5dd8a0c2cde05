use Rattle.loose_orders.proofs.BetweenLemmas.{ends_there, none_there}
use Rattle.loose_orders.proofs.between.end_at.Goals as goal

pub returns-in-Some : goal.returns-in-Some
returns-in-Some c = λ d is. ends_there c.timed_at.result c.in-Some.one d c.in-Some.is (c.timed_at.ensures d is)

pub returns-in-None : goal.returns-in-None
returns-in-None c = λ d is. none_there c.timed_at.result d c.in-None.is (c.timed_at.ensures d is)
