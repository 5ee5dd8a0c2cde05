use Rattle.core_steps.specs.State.{world}
use Rattle.core_steps.proofs.at_once.AtOnce.{locks}
use Rattle.core_steps.proofs.rows.Left.{left_valid}
use Rattle.core_steps.proofs.engine.Engine.lock_slots.Goals as goal

pub range-end-requires : goal.range-end-requires
range-end-requires g c = c.requires.at.goal

pub lock_run-run-requires-clause-ordered : goal.lock_run-run-requires-clause-ordered
lock_run-run-requires-clause-ordered g c =
    (left_valid (world g.M.SlotRead.slots c.args.self.now) c.args.core c.args.goal c.args.cursor c.range-end.result c.requires.at c.range-end.ensures.value
    c.range-end.ensures.sound).0

pub lock_run-run-requires-clause-valid : goal.lock_run-run-requires-clause-valid
lock_run-run-requires-clause-valid g c =
    (left_valid (world g.M.SlotRead.slots c.args.self.now) c.args.core c.args.goal c.args.cursor c.range-end.result c.requires.at c.range-end.ensures.value
    c.range-end.ensures.sound).1

pub locked_to-requires : goal.locked_to-requires
locked_to-requires g c = c.requires.at.goal

pub go_to-requires : goal.go_to-requires
go_to-requires g c = c.requires.at.here

pub returns : goal.returns
returns g c =
    let made =
    locks _ _ c.args.core c.args.goal c.args.cursor _ _ _ c.args.most _ c.requires.at c.lock_run-run.ensures.few c.requires.room
    (rw c.range-end.ensures.value at c.lock_run-run.ensures.locks) c.locked_to.ensures c.go_to.ensures in
    record { few = c.lock_run-run.ensures.few; steps = made.0; edges = made.1 }
