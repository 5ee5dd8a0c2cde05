use Rattle.slot_lock.proofs.Words.{◌∙◌, Ok, ap}
use Rattle.audit.specs.Auditor.{plain_of}
use Rattle.orders.proofs.LeadLemmas.{leads_on, leads_stop}
use Rattle.orders.proofs.leading.lead_all.Goals as goal

pub order-preserved : goal.order-preserved
order-preserved g c = record {
  any_place = c.in_ok-goes.ensures.any_place ∙ c.order.invariant.any_place;
  lead = leads_on c.args.auditor.now.any_place c.order.auditor.any_place c.args.history.now (plain_of c.args.auditor.now) (plain_of c.order.auditor)
      (plain_of c.leads.new.auditor) c.args.items.now c.order.at _ c.order.invariant.any_place c.order-test.true c.order.invariant.lead
      (c.in_ok-goes.ensures.yes (ap Ok c.if-not-goes.false));
}

pub returns-then-not-goes-clause-no : goal.returns-then-not-goes-clause-no
returns-then-not-goes-clause-no g c = λ e.
    leads_stop c.args.auditor.now.any_place c.order.auditor.any_place c.args.history.now (plain_of c.args.auditor.now) (plain_of c.order.auditor)
    c.args.items.now c.order.at _ c.order.invariant.any_place c.order-test.true c.order.invariant.lead
    (c.in_ok-goes.ensures.no (ap Ok c.if-not-goes.true))
