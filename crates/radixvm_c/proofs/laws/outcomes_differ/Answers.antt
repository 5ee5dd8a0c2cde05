use Rattle.radixvm_c.proofs.Coded.{outcomes_apart, ends_apart, entries_apart}
use Rattle.radixvm_c.proofs.laws.outcomes_differ.Goals as goal

pub returns-clause-outcomes : goal.returns-clause-outcomes
returns-clause-outcomes c = outcomes_apart

pub returns-clause-ends : goal.returns-clause-ends
returns-clause-ends c = ends_apart

pub returns-clause-entries : goal.returns-clause-entries
returns-clause-entries c = entries_apart
