use Rattle.vm_base.specs.declared.requests.Request.TheVariants.{Store}
use Rattle.core_steps.specs.Machine.{state}
use Rattle.trace.proofs.EventLines.{called}
use Rattle.trace.proofs.Seeing.{call_seen}
use Rattle.trace.proofs.event_lines.tell_store.Goals as goal

pub returns-clause-ok : goal.returns-clause-ok
returns-clause-ok g c =
    called g.M.SlotMap.can_fold g.M.SlotMap.folds (state c.args.machine.now) (state c.call.new.machine) c.args.core (Store c.args.addr c.args.byte) c.in_ok-finished.finished
    c.write_finished.new.text.bytes c.in_ok-finished.ensures.ends c.write_finished.ensures

pub returns-clause-seen : goal.returns-clause-seen
returns-clause-seen g c =
    call_seen g.X.Watch.after c.args.core (Store c.args.addr c.args.byte) c.in_ok-finished.finished c.args.watch.now c.call.new.self (state c.args.machine.now)
    (state c.call.new.machine) c.write_finished.new.text.bytes c.in_ok-finished.ensures.watched c.write_finished.ensures
