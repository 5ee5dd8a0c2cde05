use Rattle.std.proofs.Common.{subst}
use Rattle.import_log.specs.declared.entries.Entries.{Entries}
use Rattle.import_steps.specs.Taking.{SoFar}
use Rattle.word_import.specs.Replying.{RepliesEnd}
use Rattle.word_import.proofs.replying.write_listed.Goals as goal

pub returns-in-Ok-clause-ends : goal.returns-in-Ok-clause-ends
returns-in-Ok-clause-ends g c =
    subst (λ (p : SoFar × Entries). RepliesEnd p.0 p.1 c.args.choice c.args.several c.args.log.now (g.W.Sink.contents c.args.writer.now)
    (g.W.Sink.contents c.write_behind.new.writer) c.write_behind.result) c.in-Ok.ensures.value c.write_behind.ensures.ends
