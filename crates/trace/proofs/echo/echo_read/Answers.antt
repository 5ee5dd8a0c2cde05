use Rattle.std.proofs.Common.{refl}
use Rattle.std.proofs.KnownBytes.{Appends-nil}
use Rattle.trace_io.proofs.LineLemmas.{reads_none}
use Rattle.trace.specs.Echo.{unmade}
use Rattle.trace.proofs.echo.echo_read.Goals as goal

pub returns-in_default-clause-ends : goal.returns-in_default-clause-ends
returns-in_default-clause-ends g c = reads_none _ _ (λ xs. unmade refl (Appends-nil _))
