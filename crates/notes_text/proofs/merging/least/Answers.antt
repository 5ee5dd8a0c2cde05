use Rattle.std.proofs.Common.{arith, map, rules, subst, sym, ◌+◌, ◌∙◌}
use Rattle.seats.specs.Packing.{shown}
use Rattle.notes_text.specs.Merged.{IsBest}
use Rattle.notes_text.proofs.MergeLemmas.{past_empty, read_kept, read_new}
use Rattle.notes_text.proofs.merging.least.Goals as goal
use Rattle.notes_text.proofs.merging.least.Goals.{then-not-is_empty+then-is_before, then-not-is_empty+else-is_before, else-not-is_empty}

pub lists-preserved : goal.lists-preserved
lists-preserved c = elim c.if-not-is_empty.branch [
  | then-not-is_empty+then-is_before w ↦ subst (λ b. IsBest (c.lists.at + 1) (map shown c.args.lists.now) b) (sym w.best-is)
      (read_new shown c.args.lists.now c.lists.at c.index-lists-at.result c.lists.best c.lists-test.true c.index-lists-at.is
      c.lists.invariant w.ticket-ticket.result (search (rules, arith)) w.ticket-ticket.ensures (sym w.is_before.ensures ∙ w.if-is_before.true))
  | then-not-is_empty+else-is_before w ↦ subst (λ b. IsBest (c.lists.at + 1) (map shown c.args.lists.now) b) (sym w.best-is)
      (read_kept shown c.args.lists.now c.lists.at c.index-lists-at.result c.lists.best c.lists-test.true c.index-lists-at.is
      c.lists.invariant w.ticket-ticket.result (search (rules, arith)) w.ticket-ticket.ensures (sym w.is_before.ensures ∙ w.if-is_before.false))
  | else-not-is_empty w ↦ subst (λ b. IsBest (c.lists.at + 1) (map shown c.args.lists.now) b) (sym w.best-is)
      (past_empty shown c.args.lists.now c.lists.at c.index-lists-at.result c.lists.best c.lists-test.true c.index-lists-at.is
      c.lists.invariant (search (rules, arith)))
]
