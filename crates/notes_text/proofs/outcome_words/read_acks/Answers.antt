use Rattle.std.proofs.Common.{arith, sym, ◌∙◌}
use Rattle.notes_text.proofs.OutcomeLemmas.{acks_stuck, acks_low, acks_done, begun_words}
use Rattle.notes_text.proofs.outcome_words.read_acks.Goals as goal

pub returns-in_err-core : goal.returns-in_err-core
returns-in_err-core c =
    let begun = begun_words _ _ _ c.if-is_none.ensures c.next_word.ensures in
    c.from_residual.ensures
    ∙ sym (acks_stuck _ _ _ _ _ _ begun c.cores.invariant.same c.in-Some.ensures (sym c.read_core_number.ensures ∙ c.in_err-core.was))

pub returns-then-index-least : goal.returns-then-index-least
returns-then-index-least c =
    let begun = begun_words _ _ _ c.if-is_none.ensures c.next_word.ensures in
    sym (acks_low _ _ _ _ _ _ _ begun c.cores.invariant.same c.in-Some.ensures (sym c.read_core_number.ensures ∙ c.in_ok-core.was)
    (omega (arith, c.index.ensures.value, c.if-index-least.true)))

pub returns : goal.returns
returns c =
    let begun = begun_words _ _ _ c.if-is_none.ensures c.next_word.ensures in
    sym (acks_done _ _ _ _ begun c.cores.invariant.same c.in_default.ensures)
