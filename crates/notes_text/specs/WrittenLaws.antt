-- What is written of a note is read as it.
use Rattle.std.specs.Prelude.{◌≡◌, ℕ, ◌^◌, ◌<◌, ⊤}
use Rattle.machine_model.specs.declared.event.Event.{Event}
use Rattle.machine_model.specs.declared.event.Blocker.TheVariants.{Slot, Acks}
use Rattle.machine_model.specs.declared.event.Outcome.{Outcome}
use Rattle.machine_model.specs.declared.event.Outcome.TheVariants.{Stepped, Wait, Idle, Answered, Full}
use Rattle.seats.specs.Fitting.{FitsBelow, FitsReply}
use Rattle.seats.specs.declared.noted.Noted.{Noted}
use Rattle.trace_text.specs.Words.{words_of}
use Rattle.notes_text.specs.Grammar.{NamesNote}
use Rattle.notes_text.specs.Verdicts.{unended}
use Rattle.notes_text.specs.NotesWritten.{note_text}

-- ---- what fits its types

-- its core is one of 64, and an address of its page is below 2^64
abbrev pub FitsEvent : Event → Type 0
FitsEvent event = FitsBelow (2 ^ 52) event

-- a wait for acknowledgements is for those of some core
abbrev pub FitsOutcome : Outcome → Type 0
FitsOutcome Stepped = ⊤
FitsOutcome (Wait (Slot core)) = core < 64
FitsOutcome (Wait (Acks set)) = (0 < set) × (set < 2 ^ 64)
FitsOutcome Idle = ⊤
FitsOutcome (Answered reply) = FitsReply reply
FitsOutcome Full = ⊤

-- a note that a line can have
pub record FitsNote (note : Noted) : Type 0 where
  pub ticket : note.ticket < 2 ^ 64
  pub event : FitsEvent note.event
  pub outcome : FitsOutcome note.outcome

-- ---- the law

-- the line that is written of a note names it
abbrev pub WritesWhatIsRead : Type 0
WritesWhatIsRead = (note : Noted) → FitsNote note → NamesNote note (words_of (unended (note_text note)))
