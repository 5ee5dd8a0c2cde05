use Rattle.std.proofs.Common.{◌^◌, ◌+◌, ◌<◌, ◌≤◌, ◌∙◌, List, ap, arith, length, subst, sym}
use Rattle.std.proofs.lemmas.List.{length-map, length_push}
use Rattle.seats.specs.Tickets.{TicketerView}
use Rattle.seats.specs.Notes.{SeatView, noted, ticket_of}
use Rattle.seats.specs.Packing.{ListView}
use Rattle.seats.specs.declared.noted.Noted.{Noted}
use Rattle.seats.proofs.Rising.{tickets_next, rises_next}
use Rattle.seats.proofs.seat.Seat.note.Goals as goal

pub draw-ticket-requires-clause-room : goal.draw-ticket-requires-clause-room
draw-ticket-requires-clause-room g c =
    let some = subst (λ (s : SeatView). 0 < s.room) (sym c.self.view_is) c.requires in
    let count = ap length c.self.invariant.1 ∙ length-map c.self.inside.notes.notes ticket_of in
    omega (arith, some, count, c.self.invariant.4)

pub invariant_of-self : goal.invariant_of-self
invariant_of-self g c =
    let new : Noted = noted c.draw-ticket.result c.args.event c.args.outcome in
    let drawn = ap (λ (t : TicketerView). t.tickets) c.draw-ticket.ensures.drawn in
    let notes = ap (λ (l : ListView). l.notes) c.push_reserved.ensures in
    let more = length_push c.self.inside.notes.notes new in
    let some = subst (λ (s : SeatView). 0 < s.room) (sym c.self.view_is) c.requires in (
      c.self.invariant.0 ∙ sym (ap (λ (t : TicketerView). t.word) c.draw-ticket.ensures.drawn),
      tickets_next c.self.inside.ticketer.tickets _ c.self.inside.notes.notes _ new c.self.invariant.1 drawn notes,
      rises_next c.self.inside.ticketer.tickets c.self.inside.notes.notes _ new c.self.invariant.1 c.self.invariant.2 notes c.draw-ticket.ensures.later,
      subst (λ (ns : List Noted). c.self.inside.begun ≤ length ns) (sym notes) (omega (arith, more, c.self.invariant.3)),
      subst (λ (l : ListView). l.room + length l.notes ≤ 2 ^ 32) (sym c.push_reserved.ensures) (omega (arith, some, more, c.self.invariant.4)),
    )
