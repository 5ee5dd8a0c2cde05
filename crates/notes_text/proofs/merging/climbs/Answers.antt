use Rattle.machine_model.proofs.Words.{◌-◌, ◌<◌, arith, get_or, get_or_default, length, rules}
use Rattle.seats.specs.Packing.{nothing, shown}
use Rattle.seats.specs.declared.noted.Noted.{Noted}
use Rattle.certifier.proofs.Standing.{ticket_there}
use Rattle.notes_text.proofs.MergeLemmas.{climbs_all, climbs_first, climbs_more}
use Rattle.notes_text.proofs.merging.climbs.Goals as goal

pub notes-init : goal.notes-init
notes-init c = climbs_first (shown c.args.notes.now)

pub notes-preserved : goal.notes-preserved
notes-preserved c =
    let l = shown c.args.notes.now in
    let at = c.notes.at in
    let some = c.notes.auto.at in
    let lt : at < length l = search (rules, arith) in
    let y : Noted = get_or l at nothing in
    let x : Noted = get_or l (at - 1) nothing in
    let here = ticket_there l at c.ticket-ticket.result nothing lt c.ticket-ticket.ensures in
    let before = ticket_there l (at - 1) c.ticket-before.result nothing (omega (arith, lt)) c.ticket-before.ensures in
    climbs_more l at x y (omega (arith, some)) lt (get_or_default l at nothing y lt) (get_or_default l (at - 1) nothing x (omega (arith, lt)))
    (omega (arith, here, before, c.if-ticket-before.false)) c.notes.invariant

pub returns : goal.returns
returns c = λ e. climbs_all (shown c.args.notes.now) c.notes.at (search (rules, arith)) c.notes.invariant
