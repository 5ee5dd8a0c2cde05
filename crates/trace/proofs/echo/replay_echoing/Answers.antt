use Rattle.trace_io.proofs.LineLemmas.{reads_map}
use Rattle.trace.proofs.EchoLemmas.{ends_kept, ends_lost, stops_kept}
use Rattle.trace.proofs.echo.replay_echoing.Goals as goal

pub returns-in-Ok-clause-ends : goal.returns-in-Ok-clause-ends
returns-in-Ok-clause-ends g c = reads_map _ _ _ _ c.echo_read-replayed.ensures.ends (λ xs ys k h. ends_kept _ _ _ _ xs _ _ _ _ h c.flush.ensures.bytes)

pub returns-in-Err-clause-ends : goal.returns-in-Err-clause-ends
returns-in-Err-clause-ends g c =
    reads_map _ _ _ _ c.echo_read-replayed.ensures.ends (λ xs ys k h. stops_kept _ _ _ _ xs _ _ _ _ (ends_lost _ _ _ _ xs _ _ _ h) c.flush.ensures.bytes)
