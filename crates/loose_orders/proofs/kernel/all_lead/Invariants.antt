use Rattle.std.proofs.Common.{◌≡◌, take}
use Rattle.audit.specs.Auditor.{plain_of}
use Rattle.audit.specs.Placing.{rule_of}
use Rattle.loose_orders.proofs.MoveLemmas.{IsMoved}
use Rattle.loose_orders.proofs.kernel.all_lead.Given as goal

-- the moves so far lead here
abbrev pub invariant-moves : goal.invariant-moves
invariant-moves g l = record {
  any_place : l.auditor.any_place ≡ l.fn.auditor.any_place;
  led : IsMoved (rule_of l.fn.auditor.any_place) l.moving l.history l.moves (plain_of l.fn.auditor) (take l.at l.moves) (plain_of l.auditor) l.kept.items;
}
