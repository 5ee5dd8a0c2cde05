use Rattle.core_steps.specs.State.{world}
use Rattle.driven.proofs.Returned.{round_more}
use Rattle.driven.proofs.reclaiming.bring_back.Goals as goal

pub rounds-preserved : goal.rounds-preserved
rounds-preserved g c =
    round_more (world g.M.SlotRead.slots c.args.machine.now.engine) (world g.M.SlotRead.slots c.rounds.machine.engine)
    (world g.M.SlotRead.slots c.make_round.new.machine.engine) c.rounds._round c.rounds.invariant c.make_round.ensures
