use Rattle.core_steps.specs.State.{world}
use Rattle.driven.proofs.Returned.{some_join}
use Rattle.driven.proofs.reclaiming.make_round.Goals as goal

pub flushing-preserved : goal.flushing-preserved
flushing-preserved g c =
    some_join (world g.M.SlotRead.slots c.args.machine.now.engine) (world g.M.SlotRead.slots c.flushing.machine.engine)
    (world g.M.SlotRead.slots c.flush_core-in-flushing.new.machine.engine) c.flushing.invariant c.flush_core-in-flushing.ensures

pub reviewing-preserved : goal.reviewing-preserved
reviewing-preserved g c =
    some_join (world g.M.SlotRead.slots c.args.machine.now.engine) (world g.M.SlotRead.slots c.reviewing.machine.engine)
    (world g.M.SlotRead.slots c.review_core.new.machine.engine) c.reviewing.invariant c.review_core.ensures
