use Rattle.litmus_merges.proofs.OneTurn.{one_turn}
use Rattle.litmus_merges.proofs.laws.turns_lead_to_one_point.Goals as goal

pub returns : goal.returns
returns c = one_turn
