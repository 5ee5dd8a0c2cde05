use Rattle.machine_model.proofs.Words.{subst, IfOk}
use Rattle.trace_io.specs.Source.{Reads}
use Rattle.watched.specs.Sums.{summed}
use Rattle.watched.specs.Watching.{makes}
use Rattle.trace.specs.Seen.{IsSeen}
use Rattle.trace.proofs.replay.replay_summing.Goals as goal

pub returns-clause-sums : goal.returns-clause-sums
returns-clause-sums g c =
    subst (λ one. IfOk c.replay_watched-beside.result.replayed.ended
    (λ u. Reads (g.S.Source.stream c.args.reader.now) (g.S.Source.stream c.replay_watched-beside.new.reader)
    (λ input unread. IsSeen (makes summed) one c.replay_watched-beside.result.watch c.args.show input (g.W.Sink.contents c.args.writer.now)
    (g.W.Sink.contents c.replay_watched-beside.new.writer))))
    c.new.ensures c.replay_watched-beside.ensures.seen
