use Rattle.std.proofs.Common.{refl, sym}
use Rattle.coded.proofs.batch.take_event.Goals as goal

pub returns-in_default-step : goal.returns-in_default-step
returns-in_default-step g c =
    (c.in-Some.event, sym c.in-Some.ensures, c.in_default-step.ensures.step.1, c.in_default-step.ensures.step.0, refl)
