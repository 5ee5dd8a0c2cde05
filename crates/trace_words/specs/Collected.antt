-- What the lines of a text with a declaration in front come to, and why a line is refused.
use Rattle.std.specs.Prelude.{◌≡◌, ◌≢◌, ℕ, ◌≤◌, List, [], ◌∷◌, ◌++◌, Bool, true, Option, None, Some, length}
use Rattle.std.specs.Prelude.{if◌then◌else◌}
use Rattle.machine_model.specs.declared.setup.SetupFault.{SetupFault}
use Rattle.vm_base.specs.declared.rights.Mode.{Mode}
use Rattle.trace_text.specs.Words.{Word, words_of}
use Rattle.trace_text.specs.Line.{are_printable, line_of}
use Rattle.trace_text.specs.declared.line.Line.TheVariants.{Blank, Space, File}
use Rattle.trace_words.specs.declared.fault.TraceFault.{TraceFault}
use Rattle.trace_words.specs.declared.fault.TraceFault.TheVariants.{BadLine, NoVmLine, Setup}
use Rattle.trace_words.specs.Declarations.{DeclarationView, asks_for, is_next, with_file, asked_fault}
use Rattle.trace_words.specs.Kinds.{FirstWord, OfSpace, OfFile, OfEvents, kind_of}

-- what the vm line and the file lines ask for, once there is a vm line, and what the other lines name
pub record Collected (T : Type 0) : Type 0 where
  pub asked : Option DeclarationView
  pub items : List T

-- before the first line
abbrev pub nothing : {T : Type 0} → Collected T
nothing = record { asked = None; items = [] }

-- ---- a line

-- A line of printable bytes. It says nothing, or it is the first vm line, which may have to have CALLS, or a
-- file line before the first item, or the line of an item, behind a declaration that a space can be made of.
pub data Says {T : Type 0} (needs_calls : Bool) (Names : ℕ → T → List Word → Type 0) (old : Collected T)
    (line : List ℕ) (new : Collected T) : Type 0 where
  blank : line_of line ≡ Some Blank → new ≡ old → Says needs_calls Names old line new
  space : old.asked ≡ None → kind_of (words_of line) ≡ OfSpace → (cores frames calls : ℕ)
      → line_of line ≡ Some (Space cores frames calls) → (needs_calls ≡ true → length (words_of line) ≡ 4)
      → new ≡ record old { asked = Some (asks_for cores frames calls) } → Says needs_calls Names old line new
  file : (asked : DeclarationView) → old.asked ≡ Some asked → old.items ≡ [] → kind_of (words_of line) ≡ OfFile
      → (n : ℕ) (mode : Mode) (len seed : ℕ) → line_of line ≡ Some (File n mode len seed) → is_next asked n ≡ true
      → new ≡ record old { asked = Some (with_file asked (record { mode = mode; len = len; seed = seed })) }
      → Says needs_calls Names old line new
  item : (asked : DeclarationView) → old.asked ≡ Some asked → asked_fault asked ≡ None → line_of line ≢ Some Blank
      → kind_of (words_of line) ≡ OfEvents → (x : T) → Names asked.cores x (words_of line)
      → new ≡ record old { items = old.items ++ x ∷ [] } → Says needs_calls Names old line new

-- one line more is collected
pub record Takes {T : Type 0} (needs_calls : Bool) (Names : ℕ → T → List Word → Type 0) (old : Collected T)
    (line : List ℕ) (new : Collected T) : Type 0 where
  pub printable : are_printable line ≡ true
  pub says : Says needs_calls Names old line new

-- why no space can be made, or else that the line is bad
abbrev pub late : Option SetupFault → ℕ → TraceFault
late (Some own) number = Setup own
late None number = BadLine number

-- why a line that can't be taken isn't, by its first word
abbrev pub fault_at : Option DeclarationView → ℕ → FirstWord → TraceFault
fault_at None number OfSpace = BadLine number
fault_at None number OfFile = NoVmLine
fault_at None number OfEvents = NoVmLine
fault_at (Some asked) number OfSpace = late (asked_fault asked) number
fault_at (Some asked) number OfFile = BadLine number
fault_at (Some asked) number OfEvents = late (asked_fault asked) number

-- a byte that isn't printable makes any line bad
abbrev pub fault_of : Bool → Option DeclarationView → ℕ → FirstWord → TraceFault
fault_of printable asked number kind = if printable then fault_at asked number kind else BadLine number

-- the line with this number can't be taken, and this is why
pub record Refuses {T : Type 0} (needs_calls : Bool) (Names : ℕ → T → List Word → Type 0) (old : Collected T)
    (number : ℕ) (line : List ℕ) (f : TraceFault) : Type 0 where
  pub cannot : (new : Collected T) → Takes needs_calls Names old line new → ⊥
  pub fault : f ≡ fault_of (are_printable line) old.asked number (kind_of (words_of line))

-- there is an item to be kept
abbrev pub Wants : {T : Type 0} → Bool → (ℕ → T → List Word → Type 0) → Collected T → List ℕ → Type 0
Wants {T} needs_calls Names old line = (new : Collected T) × Takes needs_calls Names old line new

-- ---- all lines

-- the lines, none of them too long, are taken in order
abbrev pub TakesAll : {T : Type 0} → Bool → (ℕ → T → List Word → Type 0) → Collected T → List (List ℕ)
    → Collected T → Type 0
TakesAll needs_calls Names old [] new = new ≡ old
TakesAll {T} needs_calls Names old (line ∷ lines) new = (mid : Collected T) × (length line ≤ 256)
    × Takes needs_calls Names old line mid × TakesAll needs_calls Names mid lines new
