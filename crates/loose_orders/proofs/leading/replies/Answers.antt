use Rattle.std.proofs.Common.{sym, ◌∙◌}
use Rattle.audit.specs.Auditor.{plain_of}
use Rattle.loose_orders.proofs.StepLemmas.{replies_from}
use Rattle.loose_orders.proofs.leading.replies.Goals as goal

pub returns-clause-yes : goal.returns-clause-yes
returns-clause-yes g c = λ e.
    replies_from c.args.auditor.now.any_place c.note.new.auditor.any_place c.args.history.now (plain_of c.args.auditor.now) (plain_of c.note.new.auditor)
    (plain_of c.is_plain.new.auditor) c.args.call c.args.kept.now.items c.forget.new.kept.items c.note.new.kept.items c.in_ok-note.ensures.any_place
    c.in_ok-note.ensures.plain c.forget.ensures c.in_ok-note.ensures.kept c.in-Some.timed (sym c.call_at.ensures ∙ c.in-Some.is) (c.in_ok-goes.ensures.yes e)
