use Rattle.litmus_merges.proofs.Orders.{orders_merge}
use Rattle.litmus_merges.proofs.laws.orders_are_merges.Goals as goal

pub returns : goal.returns
returns c = orders_merge
