use Rattle.loose_orders.proofs.TimelyLemmas.{timely_orders}
use Rattle.loose_orders.proofs.laws.timely_orders.Goals as goal

pub returns : goal.returns
returns c = timely_orders
