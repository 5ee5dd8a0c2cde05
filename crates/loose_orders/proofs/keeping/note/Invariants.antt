use Rattle.std.proofs.Common.{◌≡◌}
use Rattle.audit.specs.Auditor.{plain_of}
use Rattle.loose_orders.proofs.StepLemmas.{Notes}
use Rattle.loose_orders.proofs.keeping.note.Given as goal

-- the uses so far are noted
abbrev pub invariant-uses : goal.invariant-uses
invariant-uses g l = record {
  plain : plain_of l.auditor ≡ plain_of l.fn.auditor;
  any_place : l.auditor.any_place ≡ l.fn.auditor.any_place;
  kept : Notes l.history l.call (plain_of l.fn.auditor) l.fn.kept.items l.kept.items;
}
