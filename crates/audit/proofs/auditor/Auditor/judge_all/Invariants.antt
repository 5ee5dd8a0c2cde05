use Rattle.std.proofs.Common.{◌≡◌, take}
use Rattle.audit.specs.Auditor.{plain_of}
use Rattle.audit.specs.Judging.{AreReplies}
use Rattle.audit.specs.Placing.{rule_of}
use Rattle.audit.proofs.auditor.Auditor.judge_all.Given as goal

-- the replies so far are legal
abbrev pub invariant-loop-at : goal.invariant-loop-at
invariant-loop-at g l = record {
  any_place : l.self.any_place ≡ l.fn.self.any_place;
  legal : AreReplies (rule_of l.fn.self.any_place) (plain_of l.fn.self) (take l.at l.calls) (plain_of l.self);
}
