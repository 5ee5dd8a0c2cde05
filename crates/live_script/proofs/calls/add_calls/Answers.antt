use Rattle.std.proofs.Common.{◌∙◌, ◌++◌, ap, arith, rules}
use Rattle.seats.specs.Packing.{shown}
use Rattle.live_script.specs.History.{begun_at, timed}
use Rattle.live_script.proofs.CallLemmas.{calls_all, calls_more, fewer, first_and_rest}
use Rattle.live_script.proofs.calls.add_calls.Goals as goal

pub notes-preserved : goal.notes-preserved
notes-preserved g c =
    let n = c.get-note.result in
    let done = c.notes.calls.items in
    calls_more done c.add_call.new.calls.items _ (shown c.notes.rest) n (shown c.rest-more.result)
    (first_and_rest _ _ _ c.get-note.ensures c.rest-more.ensures) c.notes.invariant
    (c.in_ok-add_call.ensures ∙ ap (λ b. done ++ timed n.ticket b c.first_answer-ended.result) c.begun_at-begun.ensures
    ∙ ap (λ e. done ++ timed n.ticket (begun_at n) e) c.first_answer-ended.ensures)

pub notes-smaller : goal.notes-smaller
notes-smaller g c = fewer _ _ _ c.get-note.ensures c.rest-more.ensures

pub returns : goal.returns
returns g c = calls_all _ _ (shown c.notes.rest) c.notes.invariant (search (rules, arith))
