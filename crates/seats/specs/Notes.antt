-- What a seat shows, and what a note makes of it
use Rattle.std.specs.Prelude.{◌≡◌, ℕ, ◌-◌, ◌<◌, List, [], ◌∷◌, ◌++◌}
use Rattle.atomic_table.specs.Seated.{TableId}
use Rattle.machine_model.specs.declared.event.Event.{Event}
use Rattle.machine_model.specs.declared.event.Outcome.{Outcome}
use Rattle.seats.specs.declared.noted.Noted.{Noted}

-- the word that the seat draws from, the tickets that it drew and how many seats may still be split off from it, its core, its notes, how many more
-- of them take no memory, how many calls it began, the event that a plain step notes, and from which
-- frame and page on its core looks for a free one
pub record SeatView : Type 0 where
  pub word : TableId
  pub tickets : List ℕ
  pub spare : ℕ
  pub core : ℕ
  pub notes : List Noted
  pub room : ℕ
  pub begun : ℕ
  pub plain : Event
  pub next_frame : ℕ
  pub next_page : ℕ

abbrev pub ticket_of : Noted → ℕ
ticket_of n = n.ticket

abbrev pub noted : ℕ → Event → Outcome → Noted
noted ticket event outcome = record { ticket = ticket; event = event; outcome = outcome }

-- the seat with one note more, whose ticket it drew
abbrev pub with_note : SeatView → Noted → SeatView
with_note s n = record s {
  tickets = s.tickets ++ n.ticket ∷ [];
  notes = s.notes ++ n ∷ [];
  room = s.room - 1;
}

-- one more step can be noted
abbrev pub CanNote : SeatView → Type 0
CanNote s = 0 < s.room
