use Rattle.std.proofs.Common.{Err, ap, refl}
use Rattle.trace_io.proofs.IoLemmas.{tells_unread}
use Rattle.import_log.proofs.EndLemmas.{stopped}
use Rattle.import_log.specs.Starting.{start_of}
use Rattle.word_import.specs.Replied.{replies_made}
use Rattle.word_import.proofs.replying.reply_behind.Goals as goal

pub returns-in-Err-clause-ends : goal.returns-in-Err-clause-ends
returns-in-Err-clause-ends g c =
    stopped _ _ (replies_made (start_of c.args.list.now).0 c.args.choice c.args.several) (g.W.Sink.contents c.args.writer.now) c.in-Err.fault
    (λ e. c.in-Err.ensures.write (ap Err e)) c.in-Err.ensures.kept

pub returns-in-Ok-clause-told : goal.returns-in-Ok-clause-told
returns-in-Ok-clause-told g c =
    let wrote = c.write_listed.ensures in
    record { read = λ e. absurd (wrote.read e); write = wrote.write; kept = wrote.kept; out = wrote.out }

pub returns-in-Err-clause-told : goal.returns-in-Err-clause-told
returns-in-Err-clause-told g c =
    tells_unread (λ f. f) (λ f. f) (λ f. refl) _ _ refl c.in-Err.fault c.in-Err.ensures.read c.in-Err.ensures.write
