use Rattle.std.proofs.Common.{◌≡◌, take}
use Rattle.audit.specs.Auditor.{plain_of}
use Rattle.audit.specs.Placing.{rule_of}
use Rattle.orders.specs.Orders.{LeadAll}
use Rattle.orders.proofs.leading.lead_all.Given as goal

-- the items so far lead here
abbrev pub invariant-order : goal.invariant-order
invariant-order g l = record {
  any_place : l.auditor.any_place ≡ l.fn.auditor.any_place;
  lead : LeadAll (rule_of l.fn.auditor.any_place) l.history (plain_of l.fn.auditor) (take l.at l.items) (plain_of l.auditor);
}
