use Rattle.trace_io.proofs.IoLemmas.{written_flushed}
use Rattle.live_script.proofs.writing.write_history.Goals as goal

pub returns-clause-wrote : goal.returns-clause-wrote
returns-clause-wrote g c =
    written_flushed _ _ _ _ _ _ _ _ _ c.in_default.ensures.ok c.in_default.ensures.kept c.flush.ensures.bytes c.flush.ensures.ok c.flush.ensures.err
