-- The grammar of notes: a ticket, an event as a line of a trace names it, a sign, and an outcome.
use Rattle.std.specs.Prelude.{◌≡◌, ℕ, suc, ◌^◌, ◌<◌, ◌≤◌, ⊤, decimal, List, [], ◌∷◌, ◌++◌, Option, None, Some}
use Rattle.std.specs.Prelude.{codes, map}
use Rattle.vm_base.specs.Cores.{with_member}
use Rattle.vm_base.specs.declared.replies.SegvCode.TheVariants.{MapErr, AccErr}
use Rattle.vm_base.specs.declared.replies.Reply.{Reply}
use Rattle.vm_base.specs.declared.replies.Reply.TheVariants.{Mapped, Done, Byte, Refused, Segv, Bus}
use Rattle.vm_base.specs.declared.replies.Reply.TheVariants.{NoFrame, NoMemory}
use Rattle.machine_model.specs.declared.event.Event.{Event}
use Rattle.machine_model.specs.declared.event.Event.TheVariants as Ev
use Rattle.machine_model.specs.declared.event.Blocker.TheVariants.{Slot, Acks}
use Rattle.machine_model.specs.declared.event.Outcome.{Outcome}
use Rattle.machine_model.specs.declared.event.Outcome.TheVariants.{Stepped, Wait, Idle, Answered, Full}
use Rattle.seats.specs.declared.noted.Noted.{Noted}
use Rattle.trace_words.specs.Events.{event_of}
use Rattle.trace_text.specs.Words.{Word}
use Rattle.trace_text.specs.Printing.{refusal_of}
use Rattle.trace_text.specs.Spelling.{SpellsIn, SpellsNumber}
use Rattle.trace_text.specs.Grammar.{Says}
use Rattle.trace_text.specs.declared.line.Line.{Line}
use Rattle.trace_text.specs.declared.line.Line.TheVariants.{Blank, Space, File, Act, Fold, Finish, Now}

-- ---- outcomes

-- a byte is digits alone, an address begins with 0x
abbrev pub NamesReply : Reply → List Word → Type 0
NamesReply (Mapped address) words = (digits : Word) × (words ≡ (codes "0x" ++ digits) ∷ [])
    × SpellsIn 16 digits address × (address < 2 ^ 64)
NamesReply Done words = words ≡ codes "done" ∷ []
NamesReply (Byte byte) words = (w : Word) × (words ≡ w ∷ []) × SpellsIn 10 w byte × (byte ≤ 255)
NamesReply (Refused errno) words = words ≡ refusal_of errno ∷ []
NamesReply (Segv MapErr) words = words ≡ codes "segv" ∷ codes "maperr" ∷ []
NamesReply (Segv AccErr) words = words ≡ codes "segv" ∷ codes "accerr" ∷ []
NamesReply Bus words = words ≡ codes "bus" ∷ []
NamesReply NoFrame words = words ≡ codes "noframe" ∷ []
NamesReply NoMemory words = words ≡ codes "nomemory" ∷ []

-- cores from this one on, ascending
abbrev pub Ascend : ℕ → List ℕ → Type 0
Ascend least [] = ⊤
Ascend least (core ∷ cores) = (least ≤ core) × (core < 64) × Ascend (suc core) cores

-- the set and these cores
abbrev pub with_cores : ℕ → List ℕ → ℕ
with_cores set [] = set
with_cores set (core ∷ cores) = with_cores (with_member set core) cores

-- the cores that are waited for: one or more, ascending
abbrev pub NamesAcks : ℕ → List Word → Type 0
NamesAcks set words = (first : ℕ) × (others : List ℕ)
    × (words ≡ codes "wait" ∷ codes "acks" ∷ map decimal (first ∷ others)) × Ascend 0 (first ∷ others)
    × (set ≡ with_cores 0 (first ∷ others))

-- the words by which an outcome is written, and no others
abbrev pub NamesOutcome : Outcome → List Word → Type 0
NamesOutcome Stepped words = words ≡ codes "step" ∷ []
NamesOutcome (Wait (Slot core)) words =
    (core < 64) × (words ≡ codes "wait" ∷ codes "slot" ∷ decimal core ∷ [])
NamesOutcome (Wait (Acks set)) words = NamesAcks set words
NamesOutcome Idle words = words ≡ codes "idle" ∷ []
NamesOutcome (Answered reply) words = NamesReply reply words
NamesOutcome Full words = words ≡ codes "full" ∷ []

-- ---- events

-- the event that a line of a trace asks for, where it asks for just one
abbrev pub event_said : Line → Option Event
event_said Blank = None
event_said (Space cores frames calls) = None
event_said (File n mode len seed) = None
event_said (Act core action) = Some (event_of core action)
event_said (Fold page) = Some (Ev.Fold page)
event_said (Finish core) = None
event_said (Now core request) = None

-- words that say an event, as a line of a trace does
abbrev pub NamesEvent : Event → List Word → Type 0
NamesEvent event words = (line : Line) × Says line words × (event_said line ≡ Some event)

-- ---- notes

-- `TICKET EVENT = OUTCOME`
abbrev pub NamesNote : Noted → List Word → Type 0
NamesNote note words =
    (ticket : Word) × (event : List Word) × (outcome : List Word)
    × (words ≡ ticket ∷ (event ++ codes "=" ∷ outcome)) × SpellsNumber ticket note.ticket
    × NamesEvent note.event event × NamesOutcome note.outcome outcome
