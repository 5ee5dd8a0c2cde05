use Rattle.trace_io.proofs.IoLemmas.{front_longer, written_then}
use Rattle.live_script.proofs.writing.write_lines.Goals as goal

pub returns-in-Err : goal.returns-in-Err
returns-in-Err g c = record { ok = tt; kept = tt; front = front_longer _ _ _ _ c.in-Err.ensures.front; err = c.in-Err.ensures.err }

pub returns : goal.returns
returns g c = written_then _ _ _ _ _ _ _ _ _ _ c.in_default.ensures.ok c.in_default.ensures.kept c.write_each.ensures
