use Rattle.std.proofs.Common.{List, Option, subst, sym}
use Rattle.std.specs.Prelude.{IfSome}
use Rattle.orders.specs.declared.history.Timed.{Timed}
use Rattle.cores.specs.declared.finding.Core.{Core}
use Rattle.cores.specs.Byteless.{AreByteless}
use Rattle.cores.specs.Shown.{IsShownOf}
use Rattle.cores.proofs.Forgetting.{shown_byteless}
use Rattle.cores.proofs.finding.find_core_but.Goals as goal

pub returns-in-Some-3 : goal.returns-in-Some-3
returns-in-Some-3 g c =
    let h = c.args.history.now in
    let left = subst (λ o. IfSome o (λ left. AreByteless h left.items)) c.in-Some-2.is c.in_ok-left.ensures in
    let seen = subst (λ (k : List Timed). AreByteless h k) (sym c.as_slice.ensures.value) left in
    shown_byteless c.args.any_place h c.as_slice.result.now c.args.effects.now c.in-Some-3.core seen
    (subst (λ (o : Option (Core _)). IfSome o (λ core. IsShownOf c.args.any_place c.as_slice.result.now c.args.effects.now core)) c.in-Some-3.is
    c.in_ok-core-2.ensures)
