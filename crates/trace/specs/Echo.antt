-- A replay that shows each line beside what it gives, and how it ends
use Rattle.std.specs.Prelude.{◌≡◌, ℕ, ◌+◌, ◌-◌, ◌<◌, ◌≤◌, List, [], ◌∷◌, ◌++◌, false, Option, None, Some, Result, Ok, Err, codes, length, Bool, true}
use Rattle.std.specs.Prelude.{drop, take}
use Rattle.std.specs.Io.KnownBytes.{Appends}
use Rattle.std.specs.List.{flat_map}
use Rattle.vm_base.specs.declared.log.Entry.{Entry}
use Rattle.trace_io.specs.Lines.{lines_of}
use Rattle.trace_io.specs.Sink.{AppendsFront}
use Rattle.trace_text.specs.Line.{line_of}
use Rattle.trace_text.specs.Lists.{entry_text}
use Rattle.trace_text.specs.declared.line.Line.{Line}
use Rattle.trace_text.specs.declared.line.Line.TheVariants.{Blank, Space, File, Act, Fold, Finish, Now}
use Rattle.trace.specs.Numbered.{text_at}
use Rattle.trace.specs.Asking.{asks_after, at_next, nothing_asked, whose_text}
use Rattle.trace.specs.declared.asking.Asks.{Asks}
use Rattle.machine_model.specs.declared.setup.CallLimit.{CallLimit}
use Rattle.machine_model.specs.declared.setup.CallLimit.TheVariants.{Usual}
use Rattle.trace_words.specs.declared.fault.TraceFault.{TraceFault}
use Rattle.trace_words.specs.declared.fault.TraceFault.TheVariants.{TooLong, ReadFailed, NoMemory, WriteFailed}
use Rattle.trace.specs.Shown.{log_at}
use Rattle.trace.specs.Stage.{Stage, Start, LineFails, LineWants, CanOpen, OpenFails, Acts}

-- ---- what is shown

-- of a line that says this and gave this text: an event with its outcome, the line of a space or a file as it is
abbrev pub echo_of : Option Line → List ℕ → List ℕ → List ℕ
echo_of None line text = []
echo_of (Some Blank) line text = []
echo_of (Some (Space cores frames calls)) line text = line ++ codes "\n"
echo_of (Some (File n mode len seed)) line text = line ++ codes "\n"
echo_of (Some (Act core action)) line text = line ++ codes " = " ++ text
echo_of (Some (Fold page)) line text = line ++ codes " = " ++ text
echo_of (Some (Finish core)) line text = line ++ codes " = " ++ text
echo_of (Some (Now core request)) line text = line ++ codes " = " ++ text

-- A line as it is shown: with colours faint, between the terminal's words for that and for all as usual (ECMA-48, select graphic
-- rendition: escape, `[2m` and `[0m`), and else as it is.
abbrev pub shaded : Bool → List ℕ → List ℕ
shaded true line = (27 ∷ codes "[2m") ++ line ++ (27 ∷ codes "[0m")
shaded false line = line

-- a line beside its outcome, or a line without an outcome by itself
abbrev pub echo : Bool → List ℕ → List ℕ → List ℕ
echo coloured line text = echo_of (line_of line) (shaded coloured line) text

-- a line without its newline
abbrev pub unended : List ℕ → List ℕ
unended line = take (length line - 1) line

-- the line of an entry, and behind it the call that it is of
abbrev pub entry_line : List ℕ → Entry → List ℕ
entry_line whose entry = unended (entry_text entry) ++ whose ++ codes "\n"

-- where logs are shown, a line of each entry that a log has behind its first ones
abbrev pub added_text : Bool → List ℕ → ℕ → List Entry → List ℕ
added_text true whose count log = flat_map (entry_line whose) (drop count log)
added_text false whose count log = []

-- how far lines have come: what is known of the calls that cores began last, and the stage
pub record Standing : Type 0 where
  pub asks : Asks
  pub stage : Stage

-- before the first line, where logs are shown or not
abbrev pub begun_at : Bool → CallLimit → Standing
begun_at logs limit = record { asks = nothing_asked logs; stage = Start limit }

-- behind one more, which gave this text and led to this stage
abbrev pub behind_line : Standing → List ℕ → List ℕ → Stage → Standing
behind_line old line text stage = record { asks = asks_after (at_next old.asks) line text; stage = stage }

-- what stands below a line that leads from the one to the other: the entries that it adds to the log, and the text that is shown of
-- its number
abbrev pub below : List (List ℕ) → Standing → Standing → List ℕ
below texts old new = added_text old.asks.is_wanted (whose_text new.asks) (length (log_at old.stage)) (log_at new.stage)
    ++ text_at old.asks.line texts

-- The lines, none of them too long, are acted on in order, and this is shown of them: each, and what stands below it.
abbrev pub Echoes : Bool → List (List ℕ) → Standing → List (List ℕ) → Standing → List ℕ → Type 0
Echoes coloured texts old [] new shown = (new ≡ old) × (shown ≡ [])
Echoes coloured texts old (l ∷ ls) new shown = (mid : Stage) × (text : List ℕ) × (rest : List ℕ) × (length l ≤ 256)
    × Acts old.stage l mid text × Echoes coloured texts (behind_line old l text mid) ls new rest
    × (shown ≡ echo coloured l text ++ below texts old (behind_line old l text mid) ++ rest)

-- which limit of calls holds of the one that is asked for: where the log is kept, the usual one
abbrev pub echo_limit : Bool → CallLimit → CallLimit
echo_limit true limit = Usual
echo_limit false limit = limit

-- ---- the end

-- all lines were acted on, a machine could be made, and all that they show was written
pub record EchoesAll (coloured logs : Bool) (texts : List (List ℕ)) (limit : CallLimit) (input : List ℕ) (old new : Option (List ℕ)) : Type 0 where
  pub last : Standing
  pub shown : List ℕ
  pub echoes : Echoes coloured texts (begun_at logs limit) (lines_of input) last shown
  pub opens : CanOpen last.stage
  pub appends : Appends old new shown

-- the first lines, and what they show
pub record EchoFront (coloured logs : Bool) (texts : List (List ℕ)) (limit : CallLimit) (input : List ℕ) : Type 0 where
  pub done : List (List ℕ)
  pub more : List (List ℕ)
  pub last : Standing
  pub shown : List ℕ
  pub lines : lines_of input ≡ done ++ more
  pub echoes : Echoes coloured texts (begun_at logs limit) done last shown

-- After a fault just what the lines before it show has gone out; after a failed write a front of it.
pub data EchoStops (coloured logs : Bool) (texts : List (List ℕ)) (limit : CallLimit) (input : List ℕ) (old new : Option (List ℕ)) (f : TraceFault) : Type 0 where
  reading : f ≡ ReadFailed → (p : EchoFront coloured logs texts limit input) → Appends old new p.shown → EchoStops coloured logs texts limit input old new f
  unmade : f ≡ NoMemory → Appends old new [] → EchoStops coloured logs texts limit input old new f
  wanting : f ≡ NoMemory → (p : EchoFront coloured logs texts limit input) (line : List ℕ) (others : List (List ℕ))
      → p.more ≡ line ∷ others → LineWants logs p.last.stage line → Appends old new p.shown
      → EchoStops coloured logs texts limit input old new f
  overlong : (p : EchoFront coloured logs texts limit input) (line : List ℕ) (others : List (List ℕ)) → p.more ≡ line ∷ others
      → 256 < length line → f ≡ TooLong (length p.done + 1) → Appends old new p.shown
      → EchoStops coloured logs texts limit input old new f
  refusing : (p : EchoFront coloured logs texts limit input) (line : List ℕ) (others : List (List ℕ)) → p.more ≡ line ∷ others
      → LineFails p.last.stage (length p.done + 1) line f → Appends old new p.shown
      → EchoStops coloured logs texts limit input old new f
  unopened : (p : EchoFront coloured logs texts limit input) → p.more ≡ [] → OpenFails p.last.stage f → Appends old new p.shown
      → EchoStops coloured logs texts limit input old new f
  writing : f ≡ WriteFailed → (p : EchoFront coloured logs texts limit input) → AppendsFront old new p.shown
      → EchoStops coloured logs texts limit input old new f

-- how an echoing replay ends
abbrev pub EchoEnds : {T : Type 0} → Bool → Bool → List (List ℕ) → CallLimit → List ℕ → Option (List ℕ) → Option (List ℕ) → Result T TraceFault
    → Type 0
EchoEnds coloured logs texts limit input old new (Ok x) = EchoesAll coloured logs texts limit input old new
EchoEnds coloured logs texts limit input old new (Err f) = EchoStops coloured logs texts limit input old new f
