use Rattle.litmus_merges.proofs.Loads.{loads_are_shown}
use Rattle.litmus_merges.proofs.laws.loads_show.Goals as goal

pub returns : goal.returns
returns c = loads_are_shown
