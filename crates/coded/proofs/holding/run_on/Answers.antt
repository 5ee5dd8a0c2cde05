use Rattle.std.proofs.Common.{refl}
use Rattle.coded.proofs.holding.run_on.Goals as goal

pub returns-in-Plain : goal.returns-in-Plain
returns-in-Plain c = rw c.in-Plain.is (_, refl, (c.run_events.ensures.runs, c.run_events.ensures.stops))

pub returns-in-Logged : goal.returns-in-Logged
returns-in-Logged c = rw c.in-Logged.is (_, refl, (c.run_events-in-Logged.ensures.runs, c.run_events-in-Logged.ensures.stops))
