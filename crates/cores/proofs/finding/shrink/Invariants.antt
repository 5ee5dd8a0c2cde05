use Rattle.cores.specs.Shown.{IsShownOf}
use Rattle.cores.proofs.finding.shrink.Given as goal

abbrev pub invariant-wanted : goal.invariant-wanted
invariant-wanted g l = IsShownOf l.any_place l.history l.effects l.core
