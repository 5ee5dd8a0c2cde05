use Rattle.std.proofs.Common.{List, subst, sym}
use Rattle.audit.specs.Auditor.{plain_of}
use Rattle.audit.specs.Placing.{rule_of}
use Rattle.loose_orders.specs.declared.keeping.Kept.{Kept}
use Rattle.loose_orders.specs.declared.moves.Move.{Move}
use Rattle.loose_orders.specs.declared.moves.Move.TheVariants as MoveOf
use Rattle.loose_orders.specs.Moved.{MovesOn}
use Rattle.loose_orders.proofs.kernel.leads.Goals as goal

pub returns-in_ok-goes-in-Part-clause-yes : goal.returns-in_ok-goes-in-Part-clause-yes
returns-in_ok-goes-in-Part-clause-yes g c = λ e.
    subst (λ (x : Move). MovesOn (rule_of c.args.auditor.now.any_place) c.args.moving c.args.history.now c.args.moves.now c.args.now
    (plain_of c.args.auditor.now) c.args.kept.now.items x (plain_of c.changes_part.new.auditor) c.changes_part.new.kept.items) (sym c.in-Part.is)
    (c.in_ok-goes-in-Part.ensures.yes c.args.moving c.args.moves.now c.args.now e)

pub returns-in_ok-goes-in-LateCopy-clause-yes : goal.returns-in_ok-goes-in-LateCopy-clause-yes
returns-in_ok-goes-in-LateCopy-clause-yes g c = λ e.
    let rule = rule_of c.args.auditor.now.any_place in
    let u = plain_of c.copies_late.new.auditor in
    subst (λ (x : Move). MovesOn rule c.args.moving c.args.history.now c.args.moves.now c.args.now
    (plain_of c.args.auditor.now) c.args.kept.now.items x u c.args.kept.now.items) (sym c.in-LateCopy.is)
    (subst (λ (ks : List Kept). MovesOn rule c.args.moving c.args.history.now c.args.moves.now c.args.now (plain_of c.args.auditor.now) ks
    (MoveOf.LateCopy c.in-LateCopy.call c.in-LateCopy.place) u ks) c.as_slice-ks.ensures.value (c.in_ok-goes-in-LateCopy.ensures.yes c.args.moving e))
