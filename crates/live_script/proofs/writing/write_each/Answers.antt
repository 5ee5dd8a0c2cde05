use Rattle.std.proofs.Common.{arith, refl, subst, ◌∙◌}
use Rattle.std.specs.Io.KnownBytes.{Appends}
use Rattle.trace_io.proofs.IoLemmas.{each_front, each_wrote}
use Rattle.trace_io.specs.Sink.{AppendsFront}
use Rattle.trace_words.proofs.FilePieces.{nothing_yet}
use Rattle.live_script.specs.Text.{call_text}
use Rattle.live_script.proofs.writing.write_each.Goals as goal

pub calls-init : goal.calls-init
calls-init g c = record { within = omega arith; written = nothing_yet _; kept = refl }

pub calls-preserved : goal.calls-preserved
calls-preserved g c =
    let line = c.as_bytes.ensures.value ∙ c.as_str.ensures.value ∙ c.put_call.ensures in
    record {
      within = omega (arith, c.calls-test.true);
      written = each_wrote call_text _ _ _ _ _ _ c.calls-test.true c.index-calls-at.is c.calls.invariant.written
          (subst (Appends _ _) line c.in_default.ensures.ok);
      kept = c.in_default.ensures.kept ∙ c.calls.invariant.kept;
    }

pub returns-in-Err : goal.returns-in-Err
returns-in-Err g c =
    let line = c.as_bytes.ensures.value ∙ c.as_str.ensures.value ∙ c.put_call.ensures in
    let front = each_front call_text _ _ _ _ _ _ c.calls-test.true c.index-calls-at.is c.calls.invariant.written
    (subst (AppendsFront _ _) line c.in-Err.ensures.front) in
    record { ok = tt; kept = tt; front = front; err = c.in-Err.ensures.err }
