use Rattle.std.proofs.Common.{sym}
use Rattle.core_steps.specs.State.{world}
use Rattle.driven.proofs.Tellings.{stands_sound}
use Rattle.driven.proofs.telling.stand.Goals as goal

pub returns-clause-sound : goal.returns-clause-sound
returns-clause-sound g c =
    stands_sound (world g.M.SlotRead.slots c.args.machine.now.engine) c.args.core c.phase.result c.requires c.args.machine.now.reached (sym c.phase.ensures)
