use Rattle.std.proofs.Common.{sym, ◌∙◌}
use Rattle.audit.specs.Auditor.{plain_of}
use Rattle.loose_orders.proofs.MoveLemmas.{part_on}
use Rattle.loose_orders.proofs.kernel.changes_part.Goals as goal

pub returns-clause-yes : goal.returns-clause-yes
returns-clause-yes g c = λ moving moves k e.
    let x = c.in_ok-goes.ensures.yes e in
    part_on c.args.auditor.now.any_place moving c.args.history.now moves k c.args.call c.args.count c.args.page c.in-Some.timed
    x.0 x.1 x.2 x.3 (plain_of c.args.auditor.now) (plain_of c.changes_by.new.auditor)
    c.args.kept.now.items c.forget.new.kept.items (sym c.call_at.ensures ∙ c.in-Some.is) x.4 x.5 c.forget.ensures x.6
