use Rattle.std.proofs.Common.{subst}
use Rattle.std.specs.Prelude.{OnOk}
use Rattle.core_steps.specs.Machine.{state}
use Rattle.trace.specs.EventRuns.{AsksOne}
use Rattle.trace.specs.Gives.{TellsStep}
use Rattle.trace.specs.Seen.{Sees}
use Rattle.trace.proofs.event_lines.tell_act.Goals as goal

pub returns-clause-ok : goal.returns-clause-ok
returns-clause-ok g c =
    subst (λ e. OnOk c.tell_step.result (TellsStep (state c.args.machine.now) e (state c.tell_step.new.machine) c.tell_step.new.text.bytes))
    c.event_of.ensures c.tell_step.ensures.ok

pub returns-clause-seen : goal.returns-clause-seen
returns-clause-seen g c =
    subst (λ e. OnOk c.tell_step.result (Sees g.X.Watch.after c.args.watch.now (state c.args.machine.now) (AsksOne e) (state c.tell_step.new.machine)
    c.tell_step.new.watch c.tell_step.new.text.bytes)) c.event_of.ensures c.tell_step.ensures.seen
