use Rattle.trace_io.proofs.LineLemmas.{reads_map}
use Rattle.std.proofs.lemmas.Result.{IfOk-weaker}
use Rattle.trace.proofs.Seeing.{seen_kept}
use Rattle.trace.proofs.RunLemmas.{ends_kept, ends_lost, stops_kept}
use Rattle.trace.proofs.replay.replay_watched.Goals as goal

pub returns-in-Ok-clause-ends : goal.returns-in-Ok-clause-ends
returns-in-Ok-clause-ends g c = reads_map _ _ _ _ c.replay_read-beside.ensures.ends (λ xs ys k h. ends_kept _ _ xs ys _ _ _ _ h c.flush.ensures.bytes)

pub returns-in-Err-clause-ends : goal.returns-in-Err-clause-ends
returns-in-Err-clause-ends g c =
    reads_map _ _ _ _ c.replay_read-beside.ensures.ends (λ xs ys k h. stops_kept _ _ xs ys _ _ _ _ (ends_lost _ _ xs ys _ _ _ h) c.flush.ensures.bytes)

pub returns-in-Ok-clause-seen : goal.returns-in-Ok-clause-seen
returns-in-Ok-clause-seen g c =
    IfOk-weaker c.replay_read-beside.result.replayed.ended _ _
    (λ u h. reads_map _ _ _ _ h (λ xs ys k s. seen_kept g.X.Watch.after _ _ _ xs _ _ _ s c.flush.ensures.bytes)) c.replay_read-beside.ensures.seen
