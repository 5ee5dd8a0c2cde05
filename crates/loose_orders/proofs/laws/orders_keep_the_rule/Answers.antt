use Rattle.loose_orders.proofs.KernelLemmas.{orders_keep_the_rule}
use Rattle.loose_orders.proofs.laws.orders_keep_the_rule.Goals as goal

pub returns : goal.returns
returns c = orders_keep_the_rule
