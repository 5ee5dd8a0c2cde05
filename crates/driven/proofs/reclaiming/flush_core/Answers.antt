use Rattle.core_steps.specs.State.{world}
use Rattle.driven.proofs.Returned.{flushed, some_join}
use Rattle.driven.proofs.reclaiming.flush_core.Goals as goal

pub flushes-init : goal.flushes-init
flushes-init g c =
    flushed (world g.M.SlotRead.slots c.args.machine.now.engine) (world g.M.SlotRead.slots c.flush-outcome.new.machine.engine) c.args.core
    c.flush-outcome.result c.flush-outcome.ensures

pub flushes-preserved : goal.flushes-preserved
flushes-preserved g c =
    let m = world g.M.SlotRead.slots c.flushes.machine.engine in
    let v = world g.M.SlotRead.slots c.flush-outcome-in-flushes.new.machine.engine in
    some_join (world g.M.SlotRead.slots c.args.machine.now.engine) m v c.flushes.invariant
    (flushed m v c.args.core c.flush-outcome-in-flushes.result c.flush-outcome-in-flushes.ensures)
