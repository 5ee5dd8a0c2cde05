use Rattle.std.proofs.Common.{Ok, ap, ◌∙◌}
use Rattle.audit.specs.Auditor.{plain_of}
use Rattle.loose_orders.proofs.MoveLemmas.{lags_by}
use Rattle.loose_orders.proofs.kernel.lags.Goals as goal

pub returns-clause-yes : goal.returns-clause-yes
returns-clause-yes g c = λ e.
    let two = c.in_ok-ready.ensures.any_place ∙ c.in_ok-is_old.ensures.any_place in
    lags_by c.args.auditor.now.any_place c.is_ready.new.auditor.any_place c.is_plain.new.auditor.any_place c.args.of c.args.page c.args.is_unseen
    (plain_of c.args.auditor.now) (plain_of c.protect.new.auditor) (plain_of c.is_ready.new.auditor) (plain_of c.is_plain.new.auditor)
    (plain_of c.protect-2.new.auditor) c.args.kept.now c.in-Some.old c.args.new c.args.call.now two (c.in_ok-goes.ensures.any_place ∙ two)
    (c.in_ok-ready.ensures.same (ap Ok c.if-not-ready.false)) (c.has_rights.ensures c.if-not-has_rights.false) c.in-Some.ensures
    (c.in_ok-is_old.ensures.yes (ap Ok c.if-not-is_old.false))
    (c.in_ok-ready.ensures.ready (ap Ok c.if-not-ready.false)) (c.in_ok-goes.ensures.yes (ap Ok c.if-not-goes.false)) (c.in_ok-is_new.ensures.yes e)
