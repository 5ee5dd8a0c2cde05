use Rattle.machine_model.proofs.Words.{refl, ap, Appends-nil}
use Rattle.std.specs.Prelude.{option_map}
use Rattle.std.proofs.lemmas.Result.{IfOk-weaker}
use Rattle.core_steps.specs.Machine.{state}
use Rattle.machine_model.specs.declared.setup.CallLimit.TheVariants.{Usual}
use Rattle.trace_io.proofs.LineLemmas.{reads_map, reads_none}
use Rattle.trace.specs.Ends.{unmade}
use Rattle.trace.proofs.Seeing.{seen_with}
use Rattle.trace.proofs.standing.replay_standing.Goals as goal

pub returns-in_default-clause-ends : goal.returns-in_default-clause-ends
returns-in_default-clause-ends g c = reads_none _ _ (λ xs. unmade refl refl (Appends-nil _))

pub returns-clause-ends : goal.returns-clause-ends
returns-clause-ends g c = c.replay_lines-ended.ensures.ends Usual c.new-replayer.ensures.stage

pub returns-clause-seen : goal.returns-clause-seen
returns-clause-seen g c =
    IfOk-weaker c.replay_lines-ended.result _ _
    (λ u h. reads_map _ _ _ _ h (λ xs ys k s. seen_with g.X.Watch.after _ _ _ _ _ _ _ _ _ xs _ _ c.new-replayer.ensures.watch
    c.into_parts-watch.ensures.watch (ap (option_map state) c.into_parts-watch.ensures.machine) s)) c.replay_lines-ended.ensures.seen
