-- What a packed note says
use Rattle.std.specs.Prelude.{◌≡◌, ℕ, ◌+◌, ◌*◌, ◌^◌, ◌<◌, Bool, true, false, List, [], ◌∷◌, map, get_or, All}
use Rattle.machine_model.specs.declared.event.Event.{Event}
use Rattle.machine_model.specs.declared.event.Event.TheVariants.{Call, Go, Frame, Guess, Whole, Take, Walk, Evict, Flush, Review, Fold, GiveUp}
use Rattle.machine_model.specs.declared.event.Outcome.{Outcome}
use Rattle.machine_model.specs.declared.event.Outcome.TheVariants.{Stepped, Answered}
use Rattle.vm_base.specs.declared.replies.Reply.TheVariants as Reply
use Rattle.vm_base.specs.declared.replies.Errno.TheVariants.{EINVAL, ENOMEM, EACCES, EBADF, EOVERFLOW}
use Rattle.vm_base.specs.declared.replies.SegvCode.TheVariants as Segv
use Rattle.vm_base.specs.declared.requests.Request.TheVariants as Request
use Rattle.seats.specs.Notes.{noted}
use Rattle.seats.specs.declared.noted.Noted.{Noted}
use Rattle.seats.specs.declared.packed.Brief.{Brief}
use Rattle.seats.specs.declared.packed.NoteKind.{NoteKind}
use Rattle.seats.specs.declared.packed.NoteKind.TheVariants as Kind
use Rattle.seats.specs.declared.packed.PackedNote.{PackedNote}
use Rattle.seats.specs.declared.note_list.Notes.{Notes}

-- the event of a note of this kind, with its core, its byte and its word
abbrev pub event_said : NoteKind → ℕ → ℕ → ℕ → Event
event_said NoteKind.Load core byte word = Call core (Request.Load word)
event_said NoteKind.Store core byte word = Call core (Request.Store word byte)
event_said NoteKind.Fetch core byte word = Call core (Request.Fetch word)
event_said NoteKind.Frame core byte word = Frame core word
event_said NoteKind.Guess core byte word = Guess core word
event_said NoteKind.Whole core byte word = Whole core
event_said NoteKind.Take core byte word = Take core
event_said NoteKind.Walk core byte word = Walk core word
event_said NoteKind.Evict core byte word = Evict core word
event_said NoteKind.Flush core byte word = Flush core
event_said NoteKind.Review core byte word = Review core
event_said NoteKind.Fold core byte word = Fold word
event_said NoteKind.GiveUp core byte word = GiveUp core
event_said kind core byte word = Go core

-- what it came to
abbrev pub outcome_said : NoteKind → ℕ → ℕ → Outcome
outcome_said NoteKind.Mapped byte word = Answered (Reply.Mapped word)
outcome_said NoteKind.Done byte word = Answered Reply.Done
outcome_said NoteKind.Byte byte word = Answered (Reply.Byte byte)
outcome_said NoteKind.Einval byte word = Answered (Reply.Refused EINVAL)
outcome_said NoteKind.Enomem byte word = Answered (Reply.Refused ENOMEM)
outcome_said NoteKind.Eacces byte word = Answered (Reply.Refused EACCES)
outcome_said NoteKind.Ebadf byte word = Answered (Reply.Refused EBADF)
outcome_said NoteKind.Eoverflow byte word = Answered (Reply.Refused EOVERFLOW)
outcome_said NoteKind.MapErr byte word = Answered (Reply.Segv Segv.MapErr)
outcome_said NoteKind.AccErr byte word = Answered (Reply.Segv Segv.AccErr)
outcome_said NoteKind.Bus byte word = Answered Reply.Bus
outcome_said NoteKind.NoFrame byte word = Answered Reply.NoFrame
outcome_said NoteKind.NoMemory byte word = Answered Reply.NoMemory
outcome_said kind byte word = Stepped

abbrev pub is_in_full : NoteKind → Bool
is_in_full NoteKind.InFull = true
is_in_full kind = false

-- the ticket of a note that doesn't stand in full
abbrev pub ticket_said : PackedNote → ℕ
ticket_said p = p.low + 2 ^ 32 * p.high

-- what stands where there is no note
abbrev pub nothing : Noted
nothing = noted 0 (Fold 0) Stepped

-- the note, beside those that stand in full
abbrev pub note_by : Bool → List Noted → PackedNote → Noted
note_by true in_full p = get_or in_full p.word nothing
note_by false in_full p = noted (ticket_said p) (event_said p.kind p.core p.byte p.word) (outcome_said p.kind p.byte p.word)

abbrev pub note_of : List Noted → PackedNote → Noted
note_of in_full p = note_by (is_in_full p.kind) in_full p

-- all notes
abbrev pub unpacked : List Noted → List PackedNote → List Noted
unpacked in_full ps = map (note_of in_full) ps

-- it says that the event came to the outcome
pub record Says (b : Brief) (event : Event) (outcome : Outcome) : Type 0 where
  pub short : is_in_full b.kind ≡ false
  pub of : event_said b.kind b.core b.byte b.word ≡ event
  pub came_to : outcome_said b.kind b.byte b.word ≡ outcome

-- those that stand in full have places below n
abbrev pub IsWithin : ℕ → PackedNote → Type 0
IsWithin n p = is_in_full p.kind ≡ true → p.word < n

abbrev pub AreWithin : ℕ → List PackedNote → Type 0
AreWithin n ps = All (IsWithin n) ps

-- the notes of a list, and how many more take no memory
pub record ListView : Type 0 where
  pub notes : List Noted
  pub room : ℕ

-- the packed notes, or else the plain ones
abbrev pub packed_or : List PackedNote → List Noted → List Noted → List Noted
packed_or [] in_full plain = plain
packed_or (p ∷ ps) in_full plain = unpacked in_full (p ∷ ps)

-- the notes that are lent
abbrev pub shown : Notes → List Noted
shown n = packed_or n.packed.now n.in_full.now n.plain.now
