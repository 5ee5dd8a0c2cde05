use Rattle.std.proofs.Common.{refl}
use Rattle.driven.proofs.reclaiming.reclaim_on.Goals as goal

pub returns-in-Plain : goal.returns-in-Plain
returns-in-Plain c = rw c.in-Plain.is (_, refl, c.reclaim.ensures)

pub returns-in-Logged : goal.returns-in-Logged
returns-in-Logged c = rw c.in-Logged.is (_, refl, c.reclaim-in-Logged.ensures)
