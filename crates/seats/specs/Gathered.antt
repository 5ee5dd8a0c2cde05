-- What several seats noted, seat by seat
use Rattle.std.specs.Prelude.{◌≡◌, ℕ, ◌+◌, List, map, sum_by, All}
use Rattle.atomic_table.specs.Seated.{TableId}
use Rattle.seats.specs.Notes.{SeatView, ticket_of}
use Rattle.seats.specs.Tickets.{AreDealt, Rises, count_in}
use Rattle.seats.specs.declared.noted.Noted.{Noted}

-- the tickets of each list's notes
abbrev pub tickets_in : List (List Noted) → List (List ℕ)
tickets_in lists = map (λ notes. map ticket_of notes) lists

-- Each list's tickets rise, and all tickets are the numbers below that of all notes, each once.
pub record AreWhole (lists : List (List Noted)) : Type 0 where
  pub rising : All Rises (tickets_in lists)
  pub dealt : AreDealt (count_in (tickets_in lists)) (tickets_in lists)

-- these are all seats of the word: they and those that may still be split off are 64
pub record AreAll (word : TableId) (seats : List SeatView) : Type 0 where
  pub own : All (λ s. s.word ≡ word) seats
  pub all : sum_by (λ s. s.spare + 1) seats ≡ 64
