use Rattle.litmus_merges.proofs.Orders.{all_ends}
use Rattle.litmus_merges.proofs.laws.closed_lists_have_all_ends.Goals as goal

pub returns : goal.returns
returns c = all_ends
