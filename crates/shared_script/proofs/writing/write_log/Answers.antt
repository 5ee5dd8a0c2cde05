use Rattle.shared_script.specs.Texts.{entry_line}
use Rattle.trace_io.proofs.IoLemmas.{each_front}
use Rattle.shared_script.proofs.writing.write_log.Goals as goal

pub returns-in-Err : goal.returns-in-Err
returns-in-Err g c =
    let front = each_front (entry_line c.args.requests.now) _ _ _ _ _ _ c.entries-test.true c.index-entries-at.is c.entries.invariant.written
    c.in-Err.ensures.front in
    record { ok = tt; kept = tt; front = front; err = c.in-Err.ensures.err }
