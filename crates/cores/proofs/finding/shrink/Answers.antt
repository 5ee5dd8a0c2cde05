use Rattle.std.proofs.Common.{subst, sym}
use Rattle.std.specs.Prelude.{IfSome}
use Rattle.cores.specs.Shown.{IsShownOf}
use Rattle.cores.proofs.finding.shrink.Goals as goal
use Rattle.cores.proofs.finding.shrink.Goals.{in-Some, in-None}

pub wanted-preserved : goal.wanted-preserved
wanted-preserved g c =
    elim c.match-less.branch [
      | in-Some w ↦
          subst (λ core. IsShownOf c.args.any_place c.args.history.now c.args.effects.now core) (sym w.core-is)
          (subst (λ o. IfSome o (λ core. IsShownOf c.args.any_place c.args.history.now c.args.effects.now core)) w.in-Some.is c.in_ok-less.ensures)
      | in-None w ↦ subst (λ core. IsShownOf c.args.any_place c.args.history.now c.args.effects.now core) (sym w.core-is) c.wanted.invariant
    ]
