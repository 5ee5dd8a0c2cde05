use Rattle.std.proofs.Common.{Err, ap, refl, sym, subst, ◌∙◌}
use Rattle.trace_io.proofs.IoLemmas.{tells_unread, tells_want}
use Rattle.trace_io.proofs.LineLemmas.{reads_map}
use Rattle.orders_text.specs.declared.faults.HistoryFault.TheVariants.{Io}
use Rattle.overlapping.proofs.EndLemmas.{io_back, io_of}
use Rattle.loosely.specs.Besides.{CallsEnd}
use Rattle.loosely.proofs.BesidesLemmas.{stopped, unmade}
use Rattle.loosely.proofs.telling.judge_calls.Goals as goal

pub returns-in-Ok-read_all-clause-ends : goal.returns-in-Ok-read_all-clause-ends
returns-in-Ok-read_all-clause-ends g c =
    let old = g.W.Sink.contents c.args.writer.now in
    let new = g.W.Sink.contents c.judge_out.new.writer in
    reads_map _ _ _ _ c.in-Ok-read_all.ensures.text
    (λ xs ys k e. subst (λ i. CallsEnd c.args.manner.is_alone c.args.manner.any_place i old new c.judge_out.result)
    (c.as_slice.ensures.value ∙ sym e) c.judge_out.ensures.ends)

pub returns-in-Err-clause-ends : goal.returns-in-Err-clause-ends
returns-in-Err-clause-ends g c = stopped _ _ c.args.manner.is_alone c.args.manner.any_place (g.W.Sink.contents c.args.writer.now) c.in-Err.fault
    (λ e. c.in-Err.ensures.write (ap Err e)) c.in-Err.ensures.kept

pub returns-in_default-clause-ends : goal.returns-in_default-clause-ends
returns-in_default-clause-ends g c = unmade _ c.args.manner.is_alone c.args.manner.any_place _

pub returns-in-Ok-read_all-clause-told : goal.returns-in-Ok-read_all-clause-told
returns-in-Ok-read_all-clause-told g c =
    let judged = c.judge_out.ensures in
    record { read = λ e. absurd (judged.read e); write = judged.write; kept = judged.kept; out = judged.out }

pub returns-in-Err-clause-told : goal.returns-in-Err-clause-told
returns-in-Err-clause-told g c = tells_unread Io io_of io_back _ _ refl c.in-Err.fault c.in-Err.ensures.read c.in-Err.ensures.write

pub returns-in_default-clause-told : goal.returns-in_default-clause-told
returns-in_default-clause-told g c = tells_want Io io_of io_back _ _ refl
