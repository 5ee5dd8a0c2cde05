use Rattle.std.proofs.Common.{[], IfSome, Option, subst}
use Rattle.cores.specs.Shown.{IsShownBut}
use Rattle.cores.specs.declared.finding.Core.{Core}
use Rattle.cores.proofs.Sparing.{shown_all}
use Rattle.cores.proofs.finding.find_core.Goals as goal

pub returns-in-Some : goal.returns-in-Some
returns-in-Some g c =
    shown_all c.args.any_place c.args.history.now c.in-Some.core
    (subst (λ (o : Option (Core _)). IfSome o (λ core. IsShownBut c.args.any_place c.args.history.now [] core)) c.in-Some.is
    c.in_ok-core.ensures)
