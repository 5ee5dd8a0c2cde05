use Rattle.machine_model.proofs.Words.{refl, Appends-nil}
use Rattle.trace_io.proofs.LineLemmas.{reads_none}
use Rattle.trace.specs.Ends.{unmade}
use Rattle.trace.proofs.replay.replay_read.Goals as goal

pub returns-in_default-clause-ends : goal.returns-in_default-clause-ends
returns-in_default-clause-ends g c = reads_none _ _ (λ xs. unmade refl refl (Appends-nil _))
