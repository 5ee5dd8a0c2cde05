use Rattle.std.proofs.Common.{refl}
use Rattle.trace_io.proofs.LineLemmas.{reads_none}
use Rattle.trace_words.specs.Ends.{unmade}
use Rattle.trace_words.proofs.collecting.collect.Goals as goal

pub returns-in_default-clause-err : goal.returns-in_default-clause-err
returns-in_default-clause-err g c = reads_none _ _ (λ xs. unmade refl refl)
