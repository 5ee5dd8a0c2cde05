use Rattle.std.proofs.Common.{Some, ap, sym, ◌∙◌}
use Rattle.seats.specs.Packing.{note_of}
use Rattle.seats.specs.declared.packed.PackedNote.{PackedNote}
use Rattle.seats.proofs.Packing.{ticket_at}
use Rattle.seats.proofs.note_list.Notes.ticket.Goals as goal

pub returns-else-is_empty : goal.returns-else-is_empty
returns-else-is_empty c =
    ticket_at c.args.self.now.packed.now c.args.self.now.in_full.now c.args.self.now.plain.now c.args.at c.index-self-at-else-is_empty.result
    (sym c.is_empty.ensures ∙ c.if-is_empty.false) c.requires c.index-self-at-else-is_empty.is
    ∙ ap (λ (p : PackedNote). Some (note_of c.args.self.now.in_full.now p).ticket) c.index-self-at-else-is_empty.is ∙ ap Some (sym c.ticket_beside.ensures)
