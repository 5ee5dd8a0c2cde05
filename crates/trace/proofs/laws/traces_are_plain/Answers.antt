use Rattle.trace.proofs.PlainTextLemmas.{traces_plain}
use Rattle.trace.proofs.laws.traces_are_plain.Goals as goal

pub returns : goal.returns
returns c = traces_plain
