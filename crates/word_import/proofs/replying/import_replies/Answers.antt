use Rattle.std.proofs.Common.{Err, ap}
use Rattle.trace_io.proofs.LineLemmas.{reads_map, reads_none}
use Rattle.import_log.proofs.EndLemmas.{stops_here}
use Rattle.import_log.specs.Starting.{start_of}
use Rattle.word_import.specs.Replied.{replies_made}
use Rattle.word_import.proofs.replying.import_replies.Goals as goal

pub returns-in-Err-clause-ends : goal.returns-in-Err-clause-ends
returns-in-Err-clause-ends g c = reads_map _ _ _ _ c.in-Err.ensures.kept (λ xs ys k e. reads_none _ _ (λ input.
    stops_here (replies_made (start_of xs).0 c.args.choice c.args.several input) _ c.in-Err.fault (λ e. c.in-Err.ensures.write (ap Err e))))
