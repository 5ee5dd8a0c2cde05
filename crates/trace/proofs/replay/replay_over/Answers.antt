use Rattle.std.proofs.lemmas.Result.{IfOk-weaker}
use Rattle.trace_io.proofs.LineLemmas.{reads_map}
use Rattle.trace.proofs.Seeing.{is_seen}
use Rattle.trace.proofs.replay.replay_over.Goals as goal

pub returns-clause-ends : goal.returns-clause-ends
returns-clause-ends g c = c.replay_lines-ended.ensures.ends c.args.limit c.within-replayer.ensures.stage

pub returns-clause-seen : goal.returns-clause-seen
returns-clause-seen g c =
    IfOk-weaker c.replay_lines-ended.result _ _
    (λ u h. reads_map _ _ _ _ h (λ xs ys k s. is_seen g.X.Watch.after _ _ _ _ _ _ xs _ _ c.within-replayer.ensures.watch
    c.into_watch.ensures s)) c.replay_lines-ended.ensures.seen
