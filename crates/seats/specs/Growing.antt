-- What becomes of a seat's notes during a call
use Rattle.std.specs.Prelude.{◌≡◌, ℕ, ◌==◌, ◌&&◌, List, [], ◌∷◌, ◌++◌, Bool, true, false}
use Rattle.std.specs.List.{list_all}
use Rattle.machine_model.specs.declared.event.Event.{Event}
use Rattle.machine_model.specs.declared.event.Event.TheVariants.{Call, Go, Frame, Guess, Whole, Take, GiveUp}
use Rattle.machine_model.specs.declared.event.Outcome.{Outcome}
use Rattle.machine_model.specs.declared.event.Outcome.TheVariants.{Stepped, Answered}
use Rattle.seats.specs.Notes.{SeatView, noted, with_note}
use Rattle.seats.specs.declared.noted.Noted.{Noted}
use Rattle.vm_base.specs.Pages.{is_page}
use Rattle.vm_base.specs.declared.replies.Reply.{Reply}
use Rattle.vm_base.specs.declared.replies.Reply.TheVariants.{NoMemory}
use Rattle.vm_base.specs.declared.requests.Request.{Request}

-- the seat of the same core, with the same word, off which as many may still be split, and whose plain steps are noted as
-- before
pub record IsSame (s t : SeatView) : Type 0 where
  pub word : t.word ≡ s.word
  pub spare : t.spare ≡ s.spare
  pub core : t.core ≡ s.core
  pub plain : t.plain ≡ s.plain

-- a step of the core's own call, which guesses valid pages alone, or a take of some core; it neither begins, answers nor gives
-- up a call
abbrev pub is_step : ℕ → Event → Outcome → Bool
is_step core (Go c) Stepped = c == core
is_step core (Frame c frame) Stepped = c == core
is_step core (Guess c page) Stepped = (c == core) && is_page page
is_step core (Whole c) Stepped = c == core
is_step core (Take c) Stepped = true
is_step core event outcome = false

-- notes of such steps alone
abbrev pub are_steps : ℕ → List Noted → Bool
are_steps core notes = list_all (λ n. is_step core n.event n.outcome) notes

-- a plain step was noted under the ticket
abbrev pub Steps : SeatView → ℕ → SeatView → Type 0
Steps s ticket t = t ≡ with_note s (noted ticket s.plain Stepped)

-- the notes grew; by steps of the core's call and takes alone, if its plain steps are such
pub record Grew (s t : SeatView) : Type 0 where
  pub same : IsSame s t
  pub begun : t.begun ≡ s.begun
  pub more : List Noted
  pub are : t.notes ≡ s.notes ++ more
  pub steps : is_step s.core s.plain Stepped ≡ true → are_steps s.core more ≡ true

-- it was noted that the core's call is given up
abbrev pub GivesUp : SeatView → SeatView → Type 0
GivesUp s t = (ticket : ℕ) × (t ≡ with_note s (noted ticket (GiveUp s.core) Stepped))

-- one note says that the core's call is given up, where the reply is NoMemory, and else there is none
abbrev pub GivenUp : ℕ → Reply → List Noted → Type 0
GivenUp core NoMemory notes = (ticket : ℕ) × (notes ≡ noted ticket (GiveUp core) Stepped ∷ [])
GivenUp core reply notes = notes ≡ []

-- the step was noted, where so, and else nothing was
abbrev pub NotesIf : SeatView → Event → Bool → SeatView → Type 0
NotesIf s event true t = (ticket : ℕ) × (t ≡ with_note s (noted ticket event Stepped))
NotesIf s event false t = t ≡ s

-- One call was noted: first its beginning, and last its answer. Between them are steps of the call and takes alone, but
-- where the reply is NoMemory one note that it is given up.
pub record OneCall (s : SeatView) (request : Request) (reply : Reply) (t : SeatView) : Type 0 where
  pub same : IsSame s t
  pub first : ℕ
  pub last : ℕ
  pub before : List Noted
  pub given : List Noted
  pub after : List Noted
  pub are : t.notes
      ≡ (s.notes ++ noted first (Call s.core request) Stepped ∷ (before ++ given ++ after)) ++ noted last (Go s.core) (Answered reply) ∷ []
  pub steps : are_steps s.core (before ++ after) ≡ true
  pub given_up : GivenUp s.core reply given
