use Rattle.machine_model.proofs.CoherenceKept.{coherence_kept, opening}
use Rattle.machine_model.proofs.laws.translations_are_kept.Goals as goal

pub returns-clause-kept : goal.returns-clause-kept
returns-clause-kept c = coherence_kept

pub returns-clause-opening : goal.returns-clause-opening
returns-clause-opening c = opening
