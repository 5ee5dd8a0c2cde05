use Rattle.std.proofs.Common.{◌∙◌, arith, drop, refl, rules, sym}
use Rattle.seats.specs.Packing.{shown}
use Rattle.live_script.proofs.CallLemmas.{answer_begun, answer_first, answer_later, answer_none, fewer, first_and_rest}
use Rattle.live_script.proofs.calls.first_answer.Goals as goal

pub returns-then-begins : goal.returns-then-begins
returns-then-begins c =
    answer_begun (shown c.notes.rest) c.get-note.result (drop 1 (shown c.notes.rest)) (first_and_rest _ _ _ c.get-note.ensures refl) (search rules)
    ∙ c.notes.invariant

pub returns-then-answers : goal.returns-then-answers
returns-then-answers c =
    c.ended_at-ended.ensures
    ∙ answer_first (shown c.notes.rest) c.get-note.result (drop 1 (shown c.notes.rest)) (first_and_rest _ _ _ c.get-note.ensures refl) (search rules)
    (search rules)
    ∙ c.notes.invariant

pub notes-preserved : goal.notes-preserved
notes-preserved c =
    sym (answer_later (shown c.notes.rest) c.get-note.result (shown c.rest-more.result)
    (first_and_rest _ _ _ c.get-note.ensures c.rest-more.ensures) (search rules) (search rules)) ∙ c.notes.invariant

pub notes-smaller : goal.notes-smaller
notes-smaller c = fewer _ _ _ c.get-note.ensures c.rest-more.ensures

pub returns : goal.returns
returns c = answer_none (shown c.notes.rest) _ c.notes.invariant (search (rules, arith))
