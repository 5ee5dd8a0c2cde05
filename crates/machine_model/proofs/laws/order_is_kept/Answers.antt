use Rattle.machine_model.proofs.Kept.{kept}
use Rattle.machine_model.proofs.Opening.{opening_is_orderly}
use Rattle.machine_model.proofs.laws.order_is_kept.Goals as goal

pub returns-clause-kept : goal.returns-clause-kept
returns-clause-kept c = kept

pub returns-clause-opening : goal.returns-clause-opening
returns-clause-opening c = opening_is_orderly
