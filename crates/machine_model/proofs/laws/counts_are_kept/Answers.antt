use Rattle.machine_model.proofs.CountsKept.{counted_kept, opening_is_counted}
use Rattle.machine_model.proofs.laws.counts_are_kept.Goals as goal

pub returns-clause-kept : goal.returns-clause-kept
returns-clause-kept c = counted_kept

pub returns-clause-opening : goal.returns-clause-opening
returns-clause-opening c = opening_is_counted
