use Rattle.core_steps.proofs.at_once.ChangeAtOnce.{refuses_at_once}
use Rattle.core_steps.proofs.engine.Engine.refuse_at_once.Goals as goal

pub returns : goal.returns
returns g c =
    let made = refuses_at_once c.requires.2 c.reply_at_once.ensures in
    record { steps = made.0; edges = made.1 }
