-- How far a trace has come, and what one line does to it.
use Rattle.std.specs.Prelude.{◌≡◌, ◌≢◌, ℕ, ◌⊎◌, List, [], Bool, true, false, Option, None, Some}
use Rattle.std.specs.Prelude.{IsSomeAnd, ⊤}
use Rattle.radix_range.specs.Tree.{new_tree}
use Rattle.radix_range.specs.Folds.{CanFold, FoldsNode}
use Rattle.machine_model.specs.World.{World, new_world}
use Rattle.machine_model.specs.declared.setup.CallLimit.{CallLimit}
use Rattle.machine_model.specs.declared.setup.SetupFault.{SetupFault}
use Rattle.machine_model.specs.declared.setup.SetupFault.TheVariants as Of
use Rattle.trace_text.specs.Words.{words_of}
use Rattle.trace_text.specs.Line.{are_printable, line_of}
use Rattle.trace_text.specs.declared.line.Line.{Line}
use Rattle.trace_text.specs.declared.line.Line.TheVariants.{Blank, Space, File, Act, Fold, Finish, Now}
use Rattle.trace_words.specs.declared.fault.TraceFault.{TraceFault}
use Rattle.trace_words.specs.declared.fault.TraceFault.TheVariants as By
use Rattle.trace_words.specs.Declarations.{DeclarationView, asks_for, is_next, with_file, made_by}
use Rattle.trace_words.specs.Declarations.{asked_fault_within}
use Rattle.trace.specs.Gives.{Gives, Wants, is_event}
use Rattle.trace_words.specs.Kinds.{FirstWord, OfSpace, OfFile, OfEvents, kind_of}

-- No line with words yet; the vm line, and the file lines behind it; a machine. Up to the machine
-- there is a limit of the calls that may be asked for.
pub data Stage : Type 0 where
  Start : CallLimit → Stage
  Declared : CallLimit → DeclarationView → Stage
  Running : World → Stage

-- how far a replay has come, from its parts
abbrev pub stage_of : CallLimit → Option DeclarationView → Option World → Stage
stage_of limit asked (Some w) = Running w
stage_of limit (Some a) None = Declared limit a
stage_of limit None None = Start limit

-- the machine that is asked for, over a new tree of slots
abbrev pub new_machine : DeclarationView → World
new_machine a = new_world (made_by a) new_tree

-- the machine that an event's line finds: a new one, if there was none before
abbrev pub Opens : Stage → World → Type 0
Opens (Start limit) w = ⊥
Opens (Declared limit a) w = (asked_fault_within limit a ≡ None) × (w ≡ new_machine a)
Opens (Running v) w = w ≡ v

-- a machine can be made, or is there
abbrev pub CanOpen : Stage → Type 0
CanOpen (Start limit) = ⊥
CanOpen (Declared limit a) = asked_fault_within limit a ≡ None
CanOpen (Running w) = ⊤

-- Why no machine was made of what is asked for: its own first fault, or want of memory, for the
-- bytes of files where there are some, or for the machine.
abbrev pub SetupFails : DeclarationView → Option SetupFault → TraceFault → Type 0
SetupFails a (Some own) f = f ≡ By.Setup own
SetupFails a None f = ((a.files ≢ []) × (f ≡ By.NoMemory)) ⊎ (f ≡ By.Setup Of.NoMemory)

-- why no machine can be made of the lines so far
abbrev pub OpenFails : Stage → TraceFault → Type 0
OpenFails (Start limit) f = f ≡ By.NoVmLine
OpenFails (Declared limit a) f = SetupFails a (asked_fault_within limit a) f
OpenFails (Running w) f = ⊥

-- The setup's fault comes before that of a line at which a machine is to be made.
abbrev pub LateFails : CallLimit → DeclarationView → ℕ → TraceFault → Type 0
LateFails limit a number f = SetupFails a (asked_fault_within limit a) f
    ⊎ ((asked_fault_within limit a ≡ None) × (f ≡ By.BadLine number))

-- why a bad line isn't acted on: at the line of a file no machine is made
abbrev pub BadFails : Stage → ℕ → FirstWord → TraceFault → Type 0
BadFails (Start limit) number OfSpace f = f ≡ By.BadLine number
BadFails (Start limit) number OfFile f = f ≡ By.NoVmLine
BadFails (Start limit) number OfEvents f = f ≡ By.NoVmLine
BadFails (Declared limit a) number OfSpace f = LateFails limit a number f
BadFails (Declared limit a) number OfFile f = f ≡ By.BadLine number
BadFails (Declared limit a) number OfEvents f = LateFails limit a number f
BadFails (Running w) number kind f = f ≡ By.BadLine number

-- the vm line is bad where it isn't the first line with words
abbrev pub SpaceFails : Stage → ℕ → TraceFault → Type 0
SpaceFails (Start limit) number f = ⊥
SpaceFails (Declared limit a) number f = LateFails limit a number f
SpaceFails (Running w) number f = f ≡ By.BadLine number

-- the line of a file is bad where another number comes next, or a machine is there
abbrev pub FileFails : Stage → ℕ → ℕ → TraceFault → Type 0
FileFails (Start limit) number n f = f ≡ By.NoVmLine
FileFails (Declared limit a) number n f = (is_next a n ≡ false) × (f ≡ By.BadLine number)
FileFails (Running w) number n f = f ≡ By.BadLine number

-- why a line of printable bytes that says this isn't acted on
abbrev pub SaidFails : Stage → ℕ → FirstWord → Option Line → TraceFault → Type 0
SaidFails s number kind None f = BadFails s number kind f
SaidFails s number kind (Some Blank) f = ⊥
SaidFails s number kind (Some (Space cores frames calls)) f = SpaceFails s number f
SaidFails s number kind (Some (File n mode len seed)) f = FileFails s number n f
SaidFails s number kind (Some (Act core action)) f = OpenFails s f
SaidFails s number kind (Some (Fold page)) f = OpenFails s f
SaidFails s number kind (Some (Finish core)) f = OpenFails s f
SaidFails s number kind (Some (Now core request)) f = OpenFails s f

-- a byte that isn't printable makes any line bad
abbrev pub BytesFail : Bool → Stage → ℕ → List ℕ → TraceFault → Type 0
BytesFail false s number line f = f ≡ By.BadLine number
BytesFail true s number line f = SaidFails s number (kind_of (words_of line)) (line_of line) f

-- why the line with this number isn't acted on
pub record LineFails (s : Stage) (number : ℕ) (line : List ℕ) (f : TraceFault) : Type 0 where
  pub because : BytesFail (are_printable line) s number line f

-- a step of the machine that an event's line finds was refused for memory
abbrev pub EventWants : Bool → Stage → Line → Type 0
EventWants keeps s line = (w : World) × Opens s w × Wants keeps w line

-- the same, of a line in bytes
pub record LineWants (keeps : Bool) (s : Stage) (line : List ℕ) : Type 0 where
  pub printable : are_printable line ≡ true
  pub wants : IsSomeAnd (line_of line) (λ l. EventWants keeps s l)

-- a line that is acted on, by what it says; slots are joined as the tree joins them
abbrev pub EventActs : Stage → Line → Stage → List ℕ → Type 0
EventActs old line new text =
    (w : World) × (v : World) × Opens old w × Gives CanFold FoldsNode w line v text × (new ≡ Running v)

-- what a line does at its stage, and the text that answers it
abbrev pub LineActs : Stage → Line → Stage → List ℕ → Type 0
LineActs old Blank new text = (new ≡ old) × (text ≡ [])
LineActs old (Space cores frames calls) new text = (limit : CallLimit) × (old ≡ Start limit)
    × (new ≡ Declared limit (asks_for cores frames calls)) × (text ≡ [])
LineActs old (File n mode len seed) new text =
    (limit : CallLimit) × (a : DeclarationView) × (old ≡ Declared limit a) × (is_next a n ≡ true)
    × (new ≡ Declared limit (with_file a (record { mode = mode; len = len; seed = seed })))
    × (text ≡ [])
LineActs old (Act core action) new text = EventActs old (Act core action) new text
LineActs old (Fold page) new text = EventActs old (Fold page) new text
LineActs old (Finish core) new text = EventActs old (Finish core) new text
LineActs old (Now core request) new text = EventActs old (Now core request) new text

-- a line in bytes is acted on
pub record Acts (old : Stage) (line : List ℕ) (new : Stage) (text : List ℕ) : Type 0 where
  pub printable : are_printable line ≡ true
  pub acts : IsSomeAnd (line_of line) (λ l. LineActs old l new text)

-- why a line with words that isn't the vm line isn't acted on: there is no machine, or it isn't the
-- line of an event
abbrev pub EventFails : Stage → ℕ → Option Line → TraceFault → Type 0
EventFails s number line f =
    OpenFails s f ⊎ (CanOpen s × (is_event line ≡ false) × (f ≡ By.BadLine number))
