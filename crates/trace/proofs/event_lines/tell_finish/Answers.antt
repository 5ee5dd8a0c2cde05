use Rattle.core_steps.specs.Machine.{state}
use Rattle.trace.proofs.EventLines.{on_err}
use Rattle.trace.proofs.Seeing.{finish_seen}
use Rattle.trace.proofs.event_lines.tell_finish.Goals as goal

pub returns-in_err-finished-clause-err : goal.returns-in_err-finished-clause-err
returns-in_err-finished-clause-err g c = on_err c.from_residual.result _ (_, c.in_err-finished.ensures.err)

pub returns-clause-seen : goal.returns-clause-seen
returns-clause-seen g c =
    finish_seen g.X.Watch.after c.args.core c.in_ok-finished.finished c.args.watch.now c.finish.new.self (state c.args.machine.now) (state c.finish.new.machine)
    c.write_finished.new.text.bytes c.in_ok-finished.ensures.watched c.write_finished.ensures
