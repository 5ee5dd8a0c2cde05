use Rattle.trace.proofs.EventRunLemmas.{traces_are_runs}
use Rattle.trace.proofs.laws.traces_are_runs.Goals as goal

pub returns : goal.returns
returns c = traces_are_runs
