use Rattle.std.proofs.Common.{sym, ◌∙◌}
use Rattle.audit.specs.Auditor.{plain_of}
use Rattle.loose_orders.proofs.StepLemmas.{noted_found}
use Rattle.loose_orders.proofs.keeping.note_one.Goals as goal

pub returns-in_ok-push-clause-kept : goal.returns-in_ok-push-clause-kept
returns-in_ok-push-clause-kept g c =
    noted_found c.args.history.now c.args.call c.in-Some.timed (plain_of c.args.auditor.now) c.args.kept.now.items c.push.new.self.items
    c.in-Some-address_of.addr c.page_of.result c.page_of-page.result c.offset_of-offset.result c.replaces.result c.in_ok-was.field-0 c.in-Some-2.was
    (sym c.call_at.ensures ∙ c.in-Some.is) c.page_of.ensures.value c.page_of-page.ensures.value c.offset_of-offset.ensures.value c.replaces.ensures
    c.if-not-replaces.false c.in-Some-2.is c.in_ok-was.ensures.valid c.in_ok-was.ensures.was c.in_ok-push.ensures.items
