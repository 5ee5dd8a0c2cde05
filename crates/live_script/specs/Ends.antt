-- The history of a script that was run
use Rattle.std.specs.Prelude.{◌≡◌, ℕ, List, map}
use Rattle.std.specs.List.{AllByRecursion}
use Rattle.seats.specs.Notes.{SeatView}
use Rattle.live_space.specs.Space.{LiveView}
use Rattle.trace_words.specs.Scripts.{Scripted}
use Rattle.live_script.specs.Certified.{notes_in}
use Rattle.live_script.specs.Runs.{RunsAll}
use Rattle.live_script.specs.Sums.{sums_of}
use Rattle.live_script.specs.declared.sums.Sums.{Sums}
use Rattle.orders.specs.declared.history.Timed.{Timed}
use Rattle.live_script.specs.History.{EndsLater, history_of}
use Rattle.live_script.specs.Text.{history_text}

-- the answered calls of what the seats noted
abbrev pub calls_in : List SeatView → List Timed
calls_in seats = history_of (map (λ s. s.notes) seats)

-- it was run, and this is the text of the calls of what its seats noted; each was answered after it began
pub record IsHistoryText (script : Scripted) (text : List ℕ) : Type 0 where
  pub live : LiveView
  pub seats : List SeatView
  pub runs : RunsAll script live seats
  pub later : AllByRecursion EndsLater (calls_in seats)
  pub says : text ≡ history_text script.asked (calls_in seats)

-- the same, and these are the numbers of what its seats noted
pub record IsSummedHistory (script : Scripted) (told : Sums) (text : List ℕ) : Type 0 where
  pub history : IsHistoryText script text
  pub sums : told ≡ sums_of (notes_in history.seats)
