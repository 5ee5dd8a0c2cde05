use Rattle.certifier.proofs.OneRun.{refusals_exact, runs_exact, steps_exact}
use Rattle.certifier.proofs.laws.certificates_are_exact.Goals as goal

pub returns-clause-steps : goal.returns-clause-steps
returns-clause-steps g c = steps_exact

pub returns-clause-runs : goal.returns-clause-runs
returns-clause-runs g c = runs_exact

pub returns-clause-refusals : goal.returns-clause-refusals
returns-clause-refusals g c = refusals_exact
