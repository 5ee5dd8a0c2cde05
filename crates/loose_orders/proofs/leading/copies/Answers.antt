use Rattle.std.proofs.Common.{sym, ◌∙◌}
use Rattle.audit.specs.Auditor.{plain_of}
use Rattle.loose_orders.proofs.StepLemmas.{copies_on}
use Rattle.loose_orders.proofs.leading.copies.Goals as goal

pub returns-clause-yes : goal.returns-clause-yes
returns-clause-yes g c = λ e.
    copies_on c.args.history.now (plain_of c.args.auditor.now) (plain_of c.is_copied.new.auditor) c.args.call
    c.args.kept.now c.in-Some.timed (sym c.call_at.ensures ∙ c.in-Some.is) (c.in_ok-goes.ensures.yes e)
