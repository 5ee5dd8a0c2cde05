use Rattle.core_steps.specs.Machine.{state}
use Rattle.draw_records.proofs.ColumnSteps.{step_columned}
use Rattle.draw_records.proofs.watching.ColumnRecorderWatch.step.Goals as goal

pub returns-clause-watched : goal.returns-clause-watched
returns-clause-watched g c =
    step_columned c.args.self.now c.begin_line.new.self c.begin_column.new.self c.note.new.self c.end_step.new.self c.look-before.result c.told.result.now
    c.cores.result (state c.args.machine.now) (state c.step.new.self) c.args.event c.in-Ok.outcome c.told.ensures c.look-before.ensures c.cores.ensures
    c.begin_line.ensures c.begin_column.ensures c.note.ensures c.end_step.ensures
