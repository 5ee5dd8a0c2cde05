use Rattle.std.proofs.Common.{subst, ◌∙◌}
use Rattle.trace_io.specs.Sink.{AppendsFront}
use Rattle.shared_script.specs.Texts.{told_line}
use Rattle.shared_script.proofs.TextLemmas.{call_front}
use Rattle.shared_script.proofs.writing.write_core.Goals as goal

pub returns-in-Err : goal.returns-in-Err
returns-in-Err g c =
    let line = c.as_bytes.ensures.value ∙ c.as_str.ensures.value ∙ c.put_call.ensures in
    let front = subst (AppendsFront _ _) line c.in-Err.ensures.front in
    let all = call_front (told_line c.args.core) _ _ _ _ _ _ c.calls-test.true c.calls.invariant.written front in
    record { ok = tt; kept = tt; front = all; err = c.in-Err.ensures.err }
