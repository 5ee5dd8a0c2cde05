use Rattle.core_steps.specs.State.{world}
use Rattle.driven.proofs.Drives.{is_sent}
use Rattle.driven.proofs.driving.take.Goals as goal

pub drop_of-requires : goal.drop_of-requires
drop_of-requires g c =
    is_sent (world g.M.SlotRead.slots c.args.machine.now.engine) (world g.M.SlotRead.slots c.take-took.new.self.engine) c.in-Some.core c.take-took.result
    c.args.machine.now.reached c.take-took.ensures.takes
