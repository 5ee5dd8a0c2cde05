use Rattle.std.proofs.Common.{[]}
use Rattle.trace_io.proofs.LineLemmas.{reads_map}
use Rattle.import_log.proofs.each.import_log_each.Goals as goal

pub returns-in-Ok-clause-ends : goal.returns-in-Ok-clause-ends
returns-in-Ok-clause-ends g c =
    reads_map _ _ _ _ c.in-Ok.ensures.heard (λ xs ys k heard. c.parts_in.ensures.value xs (heard [] c.new-log.ensures))
