use Rattle.std.proofs.Common.{Err, ap, refl, sym, subst, ◌∙◌}
use Rattle.trace_io.proofs.IoLemmas.{tells_unread}
use Rattle.trace_io.proofs.LineLemmas.{reads_map}
use Rattle.import_log.proofs.EndLemmas.{stopped}
use Rattle.import_lackey.specs.Traced.{TraceEnds, traced_text}
use Rattle.import_lackey.proofs.traced.trace_log.Goals as goal

pub returns-in-Ok-clause-ends : goal.returns-in-Ok-clause-ends
returns-in-Ok-clause-ends g c =
    let old = g.W.Sink.contents c.args.writer.now in
    let new = g.W.Sink.contents c.write_trace.new.writer in
    reads_map _ _ _ _ c.in-Ok.ensures.text
    (λ xs ys k e. subst (λ i. TraceEnds i old new c.write_trace.result) (c.as_slice.ensures.value ∙ sym e) c.write_trace.ensures.ends)

pub returns-in-Err-clause-ends : goal.returns-in-Err-clause-ends
returns-in-Err-clause-ends g c =
    stopped _ _ traced_text (g.W.Sink.contents c.args.writer.now) c.in-Err.fault (λ e. c.in-Err.ensures.write (ap Err e)) c.in-Err.ensures.kept

pub returns-in-Ok-clause-told : goal.returns-in-Ok-clause-told
returns-in-Ok-clause-told g c =
    let wrote = c.write_trace.ensures in
    record { read = λ e. absurd (wrote.read e); write = wrote.write; kept = wrote.kept; out = wrote.out }

pub returns-in-Err-clause-told : goal.returns-in-Err-clause-told
returns-in-Err-clause-told g c =
    tells_unread (λ f. f) (λ f. f) (λ f. refl) _ _ refl c.in-Err.fault c.in-Err.ensures.read c.in-Err.ensures.write
