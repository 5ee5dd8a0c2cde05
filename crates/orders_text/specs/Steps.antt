-- What taking in one line comes to.
use Rattle.std.specs.Prelude.{◌≡◌, ℕ, ◌<◌, ◌≤◌, false, true, List, length, slice_get, Option, None, Some, ⊤, Result, Ok, Err}
use Rattle.audit_text.specs.declared.reading.Said.{Said}
use Rattle.audit_text.specs.declared.declaring.Declares.{Declares}
use Rattle.audit_text.specs.declared.declaring.Declares.TheVariants as Is
use Rattle.audit_text.specs.Steps.{declared_of}
use Rattle.trace_io.specs.declared.fault.IoFault.TheVariants.{NoMemory}
use Rattle.orders_text.specs.Faults.{IsBackward, IsOutOfPlace}
use Rattle.orders_text.specs.History.{Read, event_after, read_after}
use Rattle.orders_text.specs.Lines.{Tells, needs_space}
use Rattle.orders_text.specs.declared.faults.HistoryFault.{HistoryFault}
use Rattle.orders_text.specs.declared.faults.HistoryFault.TheVariants.{BadLine, TooLong, NoVmLine, Backwards, Overlap, Io}
use Rattle.orders_text.specs.declared.lines.HistoryLine.{HistoryLine}
use Rattle.orders_text.specs.declared.lines.HistoryLine.TheVariants.{Part, Timed as TimedCall}
use Rattle.orders_text.specs.declared.reading.History.{History}

-- what a history that is kept says
abbrev pub read_of : {A : Type 0} → History A → Read
read_of h = record {
  declared = declared_of h.declaration;
  clock = h.clock;
  waiting = h.waiting.items;
  calls = h.calls.items;
  lines = h.lines.items;
}

-- each core has a place for its call that waits
abbrev pub HasPlaces : {A : Type 0} → History A → Type 0
HasPlaces h = length h.waiting.items ≡ 64

-- the line, which has this number, can't be read
abbrev pub SaysNothing : List ℕ → ℕ → HistoryFault → Type 0
SaysNothing line number (BadLine n) = (n ≡ number) × (length line ≤ 512) × ((told : HistoryLine) → Tells told line → ⊥)
SaysNothing line number (TooLong n) = (n ≡ number) × (512 < length line)
SaysNothing line number _ = ⊥

-- what the line with this number says may not stand here
abbrev pub Refuses : ℕ → Read → HistoryLine → HistoryFault → Type 0
Refuses number r told (BadLine n) = (n ≡ number) × IsOutOfPlace number r told
Refuses number r told NoVmLine = (r.declared.has_space ≡ false) × (needs_space told ≡ true)
Refuses number r told (Backwards n) = (n ≡ number) × (r.declared.has_space ≡ true) × IsBackward told
Refuses number r told (Io NoMemory) = ⊤
Refuses number r told _ = ⊥

-- an event may not be in the line with this number
abbrev pub Unfit : ℕ → Read → Said → HistoryFault → Type 0
Unfit number r said (BadLine n) = (n ≡ number) × (event_after number r said ≡ None)
Unfit number r said (Io NoMemory) = ⊤
Unfit number r said _ = ⊥

-- taking in the line of a declaration, which has this number, comes to this
abbrev pub ComesTo : Declares → ℕ → Result Unit HistoryFault → Type 0
ComesTo Is.Part number (Ok u) = ⊤
ComesTo Is.Bad number (Err f) = f ≡ BadLine number
ComesTo Is.Ended number (Err f) = f ≡ NoVmLine
ComesTo _ number _ = ⊥

-- why the text is that of no history in which these calls overlap: by their lines
abbrev pub TellsOverlap : List ℕ → ℕ → ℕ → HistoryFault → Type 0
TellsOverlap lines one other (Overlap number before) = (slice_get lines one ≡ Some number) × (slice_get lines other ≡ Some before)
TellsOverlap lines one other (Io NoMemory) = ⊤
TellsOverlap lines one other _ = ⊥
