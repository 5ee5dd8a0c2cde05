use Rattle.std.proofs.Common.{sym, ◌∙◌}
use Rattle.audit.specs.Auditor.{plain_of}
use Rattle.loose_orders.proofs.MoveLemmas.{copy_on}
use Rattle.loose_orders.proofs.kernel.copies_late.Goals as goal

pub returns-in_ok-goes-in-Mprotect-clause-yes : goal.returns-in_ok-goes-in-Mprotect-clause-yes
returns-in_ok-goes-in-Mprotect-clause-yes g c = λ moving e.
    copy_on c.args.auditor.now.any_place moving c.args.history.now c.args.moves.now c.args.now c.args.call c.args.place c.call-of.result
    c.in-Some-page_accessed.page c.in-Mprotect.addr c.in-Mprotect.len c.in-Mprotect.prot c.in-Some.timed c.in-Some-call_at.change c.in-Some-move_at.one
    (plain_of c.args.auditor.now) (plain_of c.copies_old.new.auditor) c.args.kept.now (sym c.call_at.ensures ∙ c.in-Some.is)
    (sym c.move_at.ensures ∙ c.in-Some-move_at.is) c.call-of.ensures (sym c.call_at-2.ensures ∙ c.in-Some-call_at.is)
    (c.is_late_to.ensures.within c.if-not-is_late_to.false) (sym c.page_accessed.ensures.value ∙ c.in-Some-page_accessed.is)
    (c.is_late_to.ensures.goes_on c.if-not-is_late_to.false) (c.is_unseen.ensures c.if-not-is_unseen.false)
    c.in-Mprotect.is (c.in_ok-goes-in-Mprotect.ensures.yes e)
