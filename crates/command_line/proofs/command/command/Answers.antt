use Rattle.std.proofs.Common.{Ok, Err, [], refl}
use Rattle.command_line.proofs.DoneLemmas.{ends_here, ends_there}
use Rattle.command_line.proofs.command.command.Goals as goal

pub returns-in-None : goal.returns-in-None
returns-in-None g c = record { does = (Ok c.in-Ok.task, _, ends_here _ c.in-None.is c.perform.ensures.does) }

pub returns-in-Ok : goal.returns-in-Ok
returns-in-Ok g c = record {
  does = (Ok c.in-Ok.task, _, ends_there _ _ _ _ _ _ c.in-Some.is (refl, refl) c.perform_saving.ensures.does);
}

pub returns : goal.returns
returns g c = record { does = (Err c.in-Err.told, [], c.tell.ensures) }
