use Rattle.std.proofs.Common.{◌∙◌}
use Rattle.machine_model.proofs.Words.{Appends-trans}
use Rattle.trace_io.proofs.IoLemmas.{written_then}
use Rattle.shared_script.proofs.TextLemmas.{second_front}
use Rattle.shared_script.proofs.writing.write_lines.Goals as goal

pub returns-in-Err-write_cores : goal.returns-in-Err-write_cores
returns-in-Err-write_cores g c = record {
  ok = tt;
  kept = tt;
  front = second_front _ _ _ _ _ _ c.in_default.ensures.ok (rw c.as_slice.ensures.value at c.in-Err-write_cores.ensures.front);
  err = c.in-Err-write_cores.ensures.err;
}

pub returns : goal.returns
returns g c = written_then _ _ _ _ _ _ _ _ _ _
    (Appends-trans _ _ _ _ _ c.in_default.ensures.ok (rw c.as_slice.ensures.value at c.in_default-write_cores.ensures.ok))
    (c.in_default-write_cores.ensures.kept ∙ c.in_default.ensures.kept)
    (rw c.requests.ensures at rw c.entries.ensures at c.write_log.ensures)
