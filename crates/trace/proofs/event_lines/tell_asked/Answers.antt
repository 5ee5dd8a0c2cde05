use Rattle.std.proofs.Common.{sym, subst}
use Rattle.std.specs.Prelude.{OnOk}
use Rattle.core_steps.specs.Machine.{state}
use Rattle.trace_words.specs.Events.{event_of}
use Rattle.trace.specs.EventRuns.{AsksOne}
use Rattle.trace.specs.Gives.{TellsStep}
use Rattle.trace.specs.Seen.{Sees}
use Rattle.trace_text.specs.Front.{step_asked}
use Rattle.trace.proofs.event_lines.tell_asked.Goals as goal

pub returns-in-Take-clause-ok : goal.returns-in-Take-clause-ok
returns-in-Take-clause-ok g c =
    subst (λ s. OnOk c.tell_step.result (TellsStep (state c.args.machine.now) (event_of c.args.core (step_asked s)) (state c.tell_step.new.machine)
    c.tell_step.new.text.bytes)) (sym c.in-Take.is) c.tell_step.ensures.ok

pub returns-in-Take-clause-seen : goal.returns-in-Take-clause-seen
returns-in-Take-clause-seen g c =
    subst (λ s. OnOk c.tell_step.result (Sees g.X.Watch.after c.args.watch.now (state c.args.machine.now)
    (AsksOne (event_of c.args.core (step_asked s))) (state c.tell_step.new.machine) c.tell_step.new.watch c.tell_step.new.text.bytes))
    (sym c.in-Take.is) c.tell_step.ensures.seen

pub returns-in-Flush-clause-ok : goal.returns-in-Flush-clause-ok
returns-in-Flush-clause-ok g c =
    subst (λ s. OnOk c.tell_step-in-Flush.result (TellsStep (state c.args.machine.now) (event_of c.args.core (step_asked s)) (state c.tell_step-in-Flush.new.machine)
    c.tell_step-in-Flush.new.text.bytes)) (sym c.in-Flush.is) c.tell_step-in-Flush.ensures.ok

pub returns-in-Flush-clause-seen : goal.returns-in-Flush-clause-seen
returns-in-Flush-clause-seen g c =
    subst (λ s. OnOk c.tell_step-in-Flush.result (Sees g.X.Watch.after c.args.watch.now (state c.args.machine.now)
    (AsksOne (event_of c.args.core (step_asked s))) (state c.tell_step-in-Flush.new.machine) c.tell_step-in-Flush.new.watch c.tell_step-in-Flush.new.text.bytes))
    (sym c.in-Flush.is) c.tell_step-in-Flush.ensures.seen

pub returns-in-Review-clause-ok : goal.returns-in-Review-clause-ok
returns-in-Review-clause-ok g c =
    subst (λ s. OnOk c.tell_step-in-Review.result (TellsStep (state c.args.machine.now) (event_of c.args.core (step_asked s)) (state c.tell_step-in-Review.new.machine)
    c.tell_step-in-Review.new.text.bytes)) (sym c.in-Review.is) c.tell_step-in-Review.ensures.ok

pub returns-in-Review-clause-seen : goal.returns-in-Review-clause-seen
returns-in-Review-clause-seen g c =
    subst (λ s. OnOk c.tell_step-in-Review.result (Sees g.X.Watch.after c.args.watch.now (state c.args.machine.now)
    (AsksOne (event_of c.args.core (step_asked s))) (state c.tell_step-in-Review.new.machine) c.tell_step-in-Review.new.watch c.tell_step-in-Review.new.text.bytes))
    (sym c.in-Review.is) c.tell_step-in-Review.ensures.seen
