use Rattle.std.proofs.Common.{◌∙◌, ap, map, refl, rules, take}
use Rattle.certifier.specs.Order.{all_notes}
use Rattle.seats.specs.Packing.{shown}
use Rattle.notes_text.proofs.OrderLemmas.{all_seats, more_notes}
use Rattle.live_script.specs.Sums.{sums_of}
use Rattle.live_script.proofs.sums.sums_of.Goals as goal

pub seats-preserved : goal.seats-preserved
seats-preserved c =
    let first = all_notes (take c.seats.at (map shown c.args.seats.now)) in
    c.count_notes.ensures first c.seats.invariant
    ∙ ap sums_of (more_notes shown c.args.seats.now c.seats.at c.index-seats-at.result first _ c.seats-test.true c.index-seats-at.is refl refl)

pub returns : goal.returns
returns c = c.seats.invariant ∙ ap sums_of (all_seats shown c.args.seats.now c.seats.at _ (search rules) refl)
