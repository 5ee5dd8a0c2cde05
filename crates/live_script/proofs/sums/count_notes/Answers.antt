use Rattle.std.proofs.Common.{◌++◌, ◌∙◌, ap, arith, refl, rules, take}
use Rattle.seats.specs.Packing.{shown}
use Rattle.notes_text.proofs.OrderLemmas.{added, all_added}
use Rattle.live_script.specs.Sums.{sums_of}
use Rattle.live_script.proofs.sums.count_notes.Goals as goal

pub notes-preserved : goal.notes-preserved
notes-preserved c = λ before is.
    let ns = shown c.args.notes.now in
    let n = c.get-note.result in
    let first = before ++ take c.notes.at ns in
    c.count.ensures first (c.notes.invariant before is)
    ∙ ap sums_of (added ns c.notes.at n before first _ (search (rules, arith)) c.get-note.ensures refl refl)

pub returns : goal.returns
returns c = λ before is.
    c.notes.invariant before is ∙ ap sums_of (all_added (shown c.args.notes.now) c.notes.at before _ (search (rules, arith)) refl)
