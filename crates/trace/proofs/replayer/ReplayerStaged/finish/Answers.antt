use Rattle.std.proofs.Common.{None, option_map, subst, sym}
use Rattle.core_steps.specs.Machine.{state}
use Rattle.trace.specs.Stage.{CanOpen, stage_of}
use Rattle.trace.proofs.EventLines.{can_open}
use Rattle.trace.proofs.replayer.ReplayerStaged.finish.Goals as goal
use Rattle.trace.proofs.replayer.ReplayerStaged.finish.Goals.{in-Ok, in-Err}

pub returns-after-made-clause-ok : goal.returns-after-made-clause-ok
returns-after-made-clause-ok g c = elim c.match-made.branch [
  | in-Ok w ↦ rw w.result-is (subst (λ m. CanOpen (stage_of c.args.self.now.limit c.args.self.now.declaration (option_map state m))) (sym c.in-None.is)
      (can_open (stage_of c.args.self.now.limit c.args.self.now.declaration None) _ w.in-Ok.ensures.ok))
  | in-Err w ↦ rw w.result-is tt
]
