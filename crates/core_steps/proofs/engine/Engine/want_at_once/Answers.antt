use Rattle.std.proofs.Common.{refl}
use Rattle.core_steps.specs.State.{world}
use Rattle.core_steps.proofs.at_once.AtOnce.{stands}
use Rattle.core_steps.proofs.at_once.FaultAtOnce.{unserved}
use Rattle.core_steps.proofs.engine.Engine.want_at_once.Goals as goal

pub log_at_once-requires-clause-room : goal.log_at_once-requires-clause-room
log_at_once-requires-clause-room g c =
    (stands (world g.M.SlotRead.slots c.args.self.now) c.args.core _ c.requires.fault.here c.requires.fault.reached).room refl

pub returns : goal.returns
returns g c =
    unserved (world g.M.SlotRead.slots c.args.self.now) c.args.core c.args.touch c.requires.fault _ _ refl c.requires.wants c.requires.none
    c.log_at_once.ensures.log
