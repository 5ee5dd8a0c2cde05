-- What is kept of the lines of a log.
use Rattle.std.specs.Prelude.{◌≡◌, ℕ, ◌+◌, ◌<◌, ◌≤◌, Bool, true, false, ◌||◌, List, [], Option, None, Some, All, if◌then◌else◌, drop, is_some, length}
use Rattle.std.specs.Prelude.{map, option_map, slice_index_or, take, ⊤}
use Rattle.vm_base.specs.declared.rights.Prot.{Prot}
use Rattle.vm_base.specs.declared.requests.Flags.{Flags}
use Rattle.vm_base.specs.declared.requests.Request.{Request}
use Rattle.vm_base.specs.declared.requests.Request.TheVariants as Asks
use Rattle.trace_text.specs.Request.{no_flags}
use Rattle.import_forms.specs.Said.{file_named, said_of}
use Rattle.import_forms.specs.Speech.{Spoken, begun_of, returned_of}
use Rattle.import_forms.specs.declared.said.Said.{Said}
use Rattle.import_forms.specs.declared.said.Said.TheVariants as Says
use Rattle.import_lines.specs.Joining.{call_at}
use Rattle.import_lines.specs.Quotes.{quoted}
use Rattle.import_lines.specs.declared.lines.Entry.{Entry}
use Rattle.import_lines.specs.declared.lines.Kind.{Kind}
use Rattle.import_lines.specs.declared.lines.Kind.TheVariants.{Pages, Unmap, Protect, Breaks, Clears, Ends, Fails, Unread, Other, Rare}
use Rattle.import_lines.specs.declared.line.Line.{Line}
use Rattle.import_lines.specs.declared.lines.Saying.{Saying}
use Rattle.import_lines.specs.declared.rares.Seldom.{Seldom}

-- ---- what a line's text says

-- the file of a mapping that has one
abbrev pub mapped_name : Flags → List ℕ → List ℕ
mapped_name flags text = if flags.anon then [] else file_named text

abbrev pub asked_name : Request → List ℕ → List ℕ
asked_name (Asks.Mmap addr len prot flags file off) text = mapped_name flags text
asked_name (Asks.Munmap addr len) text = []
asked_name (Asks.Mprotect addr len prot) text = []
asked_name (Asks.Load addr) text = []
asked_name (Asks.Store addr value) text = []
asked_name (Asks.Fetch addr) text = []

-- the name that a call shows which says this: of the file that it maps, or of the program that it begins
abbrev pub name_in : Said → List ℕ → List ℕ
name_in (Says.Asks request) text = asked_name request text
name_in (Says.Breaks to) text = []
name_in (Says.Moves from old to new stays) text = []
name_in (Says.Makes thread shares joins) text = []
name_in Says.Begins text = quoted text
name_in (Says.Keyed request) text = []
name_in (Says.Sizes number len) text = []
name_in (Says.Attaches number addr prot) text = []
name_in (Says.Detaches addr) text = []
name_in (Says.Clears addr len) text = []
name_in (Says.Loses lost) text = []
name_in Says.Ends text = []
name_in Says.Fails text = []
name_in Says.Unread text = []
name_in Says.Other text = []

-- what a call says, and the name that it shows
abbrev pub told_of : List ℕ → Said × List ℕ
told_of text = (said_of text, name_in (said_of text) text)

-- that of the call that acts at line k, if one does
abbrev pub told_at : List Spoken → ℕ → Option (Said × List ℕ)
told_at all k = option_map told_of (call_at all k)

abbrev pub told_by : Option Said → List ℕ → Option (Said × List ℕ)
told_by None name = None
told_by (Some said) name = Some (said, name)

-- ---- what is kept of it

-- whether a text is of half of a call; then it's all kept, and else what it says, and the name that it shows
pub record Kept : Type 0 where
  pub half : Bool
  pub said : Said
  pub name : List ℕ

abbrev pub is_half : List ℕ → Bool
is_half text = is_some (begun_of text) || is_some (returned_of text)

abbrev pub kept_half : List ℕ → Kept
kept_half text = record { half = true; said = Says.Other; name = text }

abbrev pub kept_said : Said → List ℕ → Kept
kept_said said name = record { half = false; said = said; name = name }

abbrev pub kept_text : List ℕ → Kept
kept_text text = if is_half text then kept_half text else kept_said (said_of text) (name_in (said_of text) text)

-- what the code shows of a line
abbrev pub kept_of : Line → Kept
kept_of l = record { half = l.half; said = l.said; name = l.name.now }

-- ---- how it is kept

-- what is kept beside the entries
abbrev pub seldom_of : List ℕ → Seldom → Kept
seldom_of texts s = record { half = s.half; said = s.said; name = take s.name.len (drop s.name.from texts) }

abbrev pub kept_by : Kind → ℕ → ℕ → Prot → Flags → List Kept → Kept
kept_by Pages first second prot flags rares = kept_said (Says.Asks (Asks.Mmap first second prot flags 0 0)) []
kept_by Unmap first second prot flags rares = kept_said (Says.Asks (Asks.Munmap first second)) []
kept_by Protect first second prot flags rares = kept_said (Says.Asks (Asks.Mprotect first second prot)) []
kept_by Breaks first second prot flags rares = kept_said (Says.Breaks first) []
kept_by Clears first second prot flags rares = kept_said (Says.Clears first second) []
kept_by Ends first second prot flags rares = kept_said Says.Ends []
kept_by Fails first second prot flags rares = kept_said Says.Fails []
kept_by Unread first second prot flags rares = kept_said Says.Unread []
kept_by Other first second prot flags rares = kept_said Says.Other []
kept_by Rare first second prot flags rares = slice_index_or rares first (kept_said Says.Other [])

-- a line by its entry
abbrev pub entry_kept : List Kept → Entry → ℕ × Kept
entry_kept rares e = (e.thread, kept_by e.kind e.first e.second e.prot e.flags rares)

abbrev pub line_kept : Spoken → ℕ × Kept
line_kept s = (s.0, kept_text s.1)

-- what stands beside an entry is there
abbrev pub is_within : ℕ → Kind → ℕ → Type 0
is_within size Pages first = ⊤
is_within size Unmap first = ⊤
is_within size Protect first = ⊤
is_within size Breaks first = ⊤
is_within size Clears first = ⊤
is_within size Ends first = ⊤
is_within size Fails first = ⊤
is_within size Unread first = ⊤
is_within size Other first = ⊤
is_within size Rare first = first < size

abbrev pub said_by : Saying → Spoken
said_by s = (s.thread, s.text.items)

abbrev pub no_rights : Prot
no_rights = record { read = false; write = false; exec = false }

abbrev pub no_entry : Entry
no_entry = record { thread = 0; first = 0; second = 0; kind = Other; prot = no_rights; flags = no_flags }

-- the line whose entry stands here
abbrev pub kept_at : List Kept → List Entry → ℕ → ℕ × Kept
kept_at rares entries k = entry_kept rares (slice_index_or entries k no_entry)

-- each line has an entry; lines that say the same may share one
pub record AreKept (said : List Spoken) (rares : List Kept) (entries : List Entry) (order : List ℕ) : Type 0 where
  pub same : map (kept_at rares entries) order ≡ map line_kept said
  pub within : All (λ e. is_within (length rares) e.kind e.first) entries
  pub places : All (λ k. k < length entries) order

-- here stands the entry of a line of this thread that says nothing of memory
pub record IsOther (thread : ℕ) (entries : List Entry) (k : ℕ) : Type 0 where
  pub low : k < length entries
  pub same : (rares : List Kept) → kept_at rares entries k ≡ (thread, kept_said Says.Other [])

-- a name stands within the texts
abbrev pub IsNamed : List ℕ → Seldom → Type 0
IsNamed texts s = s.name.from + s.name.len ≤ length texts

-- here stands the entry of a line of this thread of which this is kept
pub record IsPlace (thread : ℕ) (kept : Kept) (rares : List Kept) (entries : List Entry) (k : ℕ) : Type 0 where
  pub low : k < length entries
  pub same : kept_at rares entries k ≡ (thread, kept)

-- a new entry of a line
pub record IsEntry (thread : ℕ) (kept : Kept) (rares : List Kept) (e : Entry) : Type 0 where
  pub same : entry_kept rares e ≡ (thread, kept)
  pub within : is_within (length rares) e.kind e.first
