use Rattle.std.proofs.Common.{[], Err, ap, refl}
use Rattle.trace_io.proofs.IoLemmas.{tells_unread}
use Rattle.trace_io.proofs.LineLemmas.{reads_map}
use Rattle.import_log.specs.Ends.{made_text}
use Rattle.import_steps.specs.Taking.{so_far}
use Rattle.import_log.proofs.EndLemmas.{stopped}
use Rattle.import_log.proofs.log.import_log.Goals as goal

pub returns-in-Ok-clause-ends : goal.returns-in-Ok-clause-ends
returns-in-Ok-clause-ends g c =
    reads_map _ _ _ _ c.in-Ok.ensures.heard (λ xs ys k heard. c.write_import.ensures.ends xs (heard [] c.new-log.ensures))

pub returns-in-Err-clause-ends : goal.returns-in-Err-clause-ends
returns-in-Err-clause-ends g c =
    stopped _ _ (made_text (so_far c.args.start.now) c.args.choice) (g.W.Sink.contents c.args.writer.now) c.in-Err.fault
    (λ e. c.in-Err.ensures.write (ap Err e)) c.in-Err.ensures.kept

pub returns-in-Ok-clause-told : goal.returns-in-Ok-clause-told
returns-in-Ok-clause-told g c =
    let wrote = c.write_import.ensures in
    record { read = λ e. absurd (wrote.read e); write = wrote.write; kept = wrote.kept; out = wrote.out }

pub returns-in-Err-clause-told : goal.returns-in-Err-clause-told
returns-in-Err-clause-told g c =
    tells_unread (λ f. f) (λ f. f) (λ f. refl) _ _ refl c.in-Err.fault c.in-Err.ensures.read c.in-Err.ensures.write
