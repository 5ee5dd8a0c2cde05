use Rattle.core_steps.proofs.at_once.AtOnce.{unlocks}
use Rattle.core_steps.proofs.engine.Engine.unlock_slots.Goals as goal

pub returns : goal.returns
returns g c =
    let made =
    unlocks _ _ c.args.core c.args.held c.args.reply _ _ _ c.args.most _ c.requires.at c.unlock_run-run.ensures.few c.requires.room
    c.unlock_run-run.ensures.unlocks (rw c.held_after-left.ensures at c.let_go.ensures) c.go_to.ensures in
    record { few = c.unlock_run-run.ensures.few; steps = made.0; edges = made.1 }
