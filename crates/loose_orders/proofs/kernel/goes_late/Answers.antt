use Rattle.std.proofs.Common.{List, subst, sym, ◌∙◌}
use Rattle.audit.specs.Auditor.{plain_of}
use Rattle.audit.specs.Placing.{rule_of}
use Rattle.loose_orders.specs.declared.keeping.Kept.{Kept}
use Rattle.loose_orders.specs.Moved.{GoesByRights}
use Rattle.loose_orders.proofs.MoveLemmas.{gone_on, rights_on}
use Rattle.loose_orders.proofs.kernel.goes_late.Goals as goal

pub returns-in_ok-goes-in-Munmap-clause-yes : goal.returns-in_ok-goes-in-Munmap-clause-yes
returns-in_ok-goes-in-Munmap-clause-yes g c = λ e.
    gone_on c.args.auditor.now.any_place c.args.moving c.args.history.now c.args.moves.now c.args.now c.args.call c.args.place c.call-of.result
    c.in-Some-page_accessed.page c.in-Munmap.addr c.in-Munmap.len c.in-Some.timed c.in-Some-call_at.change c.in-Some-move_at.one
    (plain_of c.args.auditor.now) (plain_of c.finds_gone.new.auditor) c.args.kept.now.items c.finds_gone.new.kept.items (sym c.call_at.ensures ∙ c.in-Some.is)
    (sym c.move_at.ensures ∙ c.in-Some-move_at.is) c.call-of.ensures (sym c.call_at-2.ensures ∙ c.in-Some-call_at.is)
    (c.is_late_to.ensures.within c.if-not-is_late_to.false) (sym c.page_accessed.ensures.value ∙ c.in-Some-page_accessed.is)
    (c.is_late_to.ensures.goes_on c.if-not-is_late_to.false)
    c.in-Munmap.is (λ r. c.in_ok-goes-in-Munmap.ensures.lags r e) (c.in_ok-goes-in-Munmap.ensures.goes e)

pub returns-in_ok-goes-in-Mprotect-clause-yes : goal.returns-in_ok-goes-in-Mprotect-clause-yes
returns-in_ok-goes-in-Mprotect-clause-yes g c = λ e.
    let rule = rule_of c.args.auditor.now.any_place in
    rights_on c.args.auditor.now.any_place c.args.moving c.args.history.now c.args.moves.now c.args.now c.args.call c.args.place c.call-of.result
    c.in-Some-page_accessed.page c.in-Mprotect.addr c.in-Mprotect.len c.in-Mprotect.prot c.in-Some.timed c.in-Some-call_at.change c.in-Some-move_at.one
    (plain_of c.args.auditor.now) (plain_of c.goes_by_rights.new.auditor) c.args.kept.now.items (sym c.call_at.ensures ∙ c.in-Some.is)
    (sym c.move_at.ensures ∙ c.in-Some-move_at.is) c.call-of.ensures (sym c.call_at-2.ensures ∙ c.in-Some-call_at.is)
    (c.is_late_to.ensures.within c.if-not-is_late_to.false) (sym c.page_accessed.ensures.value ∙ c.in-Some-page_accessed.is)
    (c.is_late_to.ensures.goes_on c.if-not-is_late_to.false)
    c.in-Mprotect.is
    (subst (λ (ks : List Kept). GoesByRights rule c.args.moving c.args.history.now c.args.moves.now c.args.place c.args.now c.call-of.result
    c.in-Some-page_accessed.page (plain_of c.args.auditor.now) ks (plain_of c.goes_by_rights.new.auditor) c.in-Mprotect.prot c.in-Some.timed.call)
    c.as_slice-ks.ensures.value (c.in_ok-goes-in-Mprotect.ensures.yes e))
