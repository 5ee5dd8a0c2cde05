use Rattle.std.proofs.Common.{arith}
use Rattle.word_import.proofs.importing.import_each.Goals as goal

pub returns-in-Ok-clause-none : goal.returns-in-Ok-clause-none
returns-in-Ok-clause-none g c = λ e. absurd (omega (arith, e, c.status_of_parts-status.ensures.below))

pub returns-in-Ok-clause-within : goal.returns-in-Ok-clause-within
returns-in-Ok-clause-within g c = omega (arith, c.status_of_parts-status.ensures.below)
