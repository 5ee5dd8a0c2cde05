use Rattle.std.proofs.Common.{Err, ap}
use Rattle.trace_io.proofs.LineLemmas.{reads_map, reads_none}
use Rattle.import_log.proofs.EndLemmas.{stops_here}
use Rattle.import_log.specs.Ends.{made_text}
use Rattle.import_log.specs.Starting.{start_of}
use Rattle.import_log.proofs.mapped.import_mapped.Goals as goal

pub returns-in-Err-clause-ends : goal.returns-in-Err-clause-ends
returns-in-Err-clause-ends g c = reads_map _ _ _ _ c.in-Err.ensures.kept (λ xs ys k e. reads_none _ _ (λ input.
    stops_here (made_text (start_of xs).0 c.args.choice input) _ c.in-Err.fault (λ e. c.in-Err.ensures.write (ap Err e))))
