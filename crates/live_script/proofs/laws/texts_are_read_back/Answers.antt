use Rattle.live_script.proofs.FitLemmas.{read_back}
use Rattle.live_script.proofs.laws.texts_are_read_back.Goals as goal

pub returns : goal.returns
returns c = read_back
