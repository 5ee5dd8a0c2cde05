use Rattle.std.proofs.Common.{subst, sym}
use Rattle.litmus_outcomes.specs.Outcomes.{AreLines}
use Rattle.litmus_outcomes.proofs.listing.list_declared.Goals as goal

pub returns-in-Ok-list_behind-clause-opening : goal.returns-in-Ok-list_behind-clause-opening
returns-in-Ok-list_behind-clause-opening g c = subst (AreLines c.args.opening.now) (sym c.in-Ok-list_behind.ensures.opening) c.in-Ok.ensures
