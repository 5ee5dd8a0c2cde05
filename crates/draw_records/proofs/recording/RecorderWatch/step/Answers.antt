use Rattle.core_steps.specs.Machine.{state}
use Rattle.draw_records.proofs.Steps.{step_recorded}
use Rattle.draw_records.proofs.recording.RecorderWatch.step.Goals as goal

pub returns-clause-watched : goal.returns-clause-watched
returns-clause-watched g c =
    step_recorded c.args.self.now c.advance.new.self c.come.new.self c.look-before.result c.told.result.now c.cores.result (state c.args.machine.now)
    (state c.step.new.self) c.args.event c.in-Ok.outcome c.told.ensures c.look-before.ensures c.cores.ensures c.advance.ensures c.come.ensures
