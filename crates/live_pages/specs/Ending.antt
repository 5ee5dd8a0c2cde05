-- How a call ends in its seat's notes
use Rattle.std.specs.Prelude.{◌≡◌, ℕ, List, ◌++◌}
use Rattle.machine_model.specs.declared.event.Event.TheVariants.{Go}
use Rattle.machine_model.specs.declared.event.Outcome.TheVariants.{Answered}
use Rattle.seats.specs.Growing.{Grew, GivenUp, IsSame}
use Rattle.seats.specs.Notes.{SeatView, noted, with_note}
use Rattle.seats.specs.declared.noted.Noted.{Noted}
use Rattle.vm_base.specs.declared.replies.Reply.{Reply}

-- the answer of the core's call was noted
abbrev pub Answers : SeatView → Reply → SeatView → Type 0
Answers s reply t = (ticket : ℕ) × (t ≡ with_note s (noted ticket (Go s.core) (Answered reply)))

-- what is left was noted of a call that isn't given up any more: its steps, and last its answer
pub record Finishes (s : SeatView) (reply : Reply) (t : SeatView) : Type 0 where
  pub before : SeatView
  pub grew : Grew s before
  pub answers : Answers before reply t

-- it was noted that the call is given up, where the reply is NoMemory, and else nothing
pub record GivesUpFor (s : SeatView) (reply : Reply) (t : SeatView) : Type 0 where
  pub same : IsSame s t
  pub begun : t.begun ≡ s.begun
  pub given : List Noted
  pub are : t.notes ≡ s.notes ++ given
  pub given_up : GivenUp s.core reply given

-- the rest of a call was noted: its steps, that it is given up, where so, and what is left then
pub record Ends (s : SeatView) (reply : Reply) (t : SeatView) : Type 0 where
  pub before : SeatView
  pub given : SeatView
  pub grew : Grew s before
  pub gives : GivesUpFor before reply given
  pub finishes : Finishes given reply t
