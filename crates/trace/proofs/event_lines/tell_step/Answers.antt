use Rattle.core_steps.specs.Machine.{state}
use Rattle.trace.proofs.Seeing.{step_seen}
use Rattle.trace.proofs.event_lines.tell_step.Goals as goal

pub returns-clause-seen : goal.returns-clause-seen
returns-clause-seen g c =
    step_seen g.X.Watch.after c.args.event c.in_ok-outcome.outcome c.args.watch.now c.step.new.self (state c.args.machine.now) (state c.step.new.machine)
    c.write_outcome.new.text.bytes c.in_ok-outcome.ensures.step c.in_ok-outcome.ensures.watched c.write_outcome.ensures
