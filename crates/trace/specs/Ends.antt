-- How a replay of a whole text ends.
use Rattle.std.specs.Prelude.{◌≡◌, ℕ, ◌+◌, ◌<◌, ◌≤◌, List, [], ◌∷◌, ◌++◌, Option}
use Rattle.std.specs.Prelude.{Result, Ok, Err, length}
use Rattle.std.specs.Io.KnownBytes.{Appends}
use Rattle.machine_model.specs.declared.setup.CallLimit.{CallLimit}
use Rattle.trace_io.specs.Lines.{lines_of, IsUnbroken}
use Rattle.trace_io.specs.Sink.{AppendsFront}
use Rattle.trace_io.specs.Taken.{AreRead}
use Rattle.trace_words.specs.declared.fault.TraceFault.{TraceFault}
use Rattle.trace_words.specs.declared.fault.TraceFault.TheVariants.{TooLong, ReadFailed, NoMemory}
use Rattle.trace_words.specs.declared.fault.TraceFault.TheVariants.{WriteFailed}
use Rattle.trace_words.specs.declared.show.Show.{Show}
use Rattle.trace.specs.Stage.{Stage, Start, LineFails, LineWants, CanOpen, OpenFails}
use Rattle.trace.specs.Runs.{Runs}
use Rattle.trace.specs.Shown.{keeps_log, told, IsBehind, IsBegunBehind}
use Rattle.trace.specs.PlainLaw.{GivesPlainText}

-- All lines were acted on, a machine could be made, and what is to be shown was written: the lines'
-- text, and what comes behind it. Both are the plain page map's, where no line disturbs a call.
pub record Completes (limit : CallLimit) (show : Show) (input : List ℕ) (old new : Option (List ℕ))
    : Type 0 where
  pub stage : Stage
  pub text : List ℕ
  pub behind : List ℕ
  pub runs : Runs (Start limit) (lines_of input) stage text
  pub opens : CanOpen stage
  pub is : IsBehind show stage behind
  pub plain : GivesPlainText show (lines_of input) stage text behind
  pub appends : Appends old new (told show text ++ behind)

-- the first lines, and the text that they give
pub record Front (limit : CallLimit) (input : List ℕ) : Type 0 where
  pub done : List (List ℕ)
  pub more : List (List ℕ)
  pub stage : Stage
  pub text : List ℕ
  pub lines : lines_of input ≡ done ++ more
  pub runs : Runs (Start limit) done stage text

-- After a fault the text of the lines before it has gone out, where it is shown, and nothing comes
-- behind it. After a failed write a front of the text has, or, where all lines were acted on, a front
-- of it and of what comes behind it, or of the first mappings (closing). After a failed read no
-- newline is among what was read behind those lines. Memory may be wanting before anything is read
-- (unmade), and where a step of the machine was refused; then no more than its line was read.
pub data Stops (limit : CallLimit) (show : Show) (input unread : List ℕ) (old new : Option (List ℕ))
    (f : TraceFault) : Type 0 where
  reading : f ≡ ReadFailed → (p : Front limit input) (r : AreRead input unread p.done) → IsUnbroken r.held
      → Appends old new (told show p.text) → Stops limit show input unread old new f
  unmade : f ≡ NoMemory → unread ≡ input → Appends old new [] → Stops limit show input unread old new f
  wanting : f ≡ NoMemory → (p : Front limit input) (line : List ℕ) (others : List (List ℕ))
      → p.more ≡ line ∷ others → AreRead input unread (p.done ++ line ∷ [])
      → LineWants (keeps_log show) p.stage line → Appends old new (told show p.text)
      → Stops limit show input unread old new f
  overlong : (p : Front limit input) (line : List ℕ) (others : List (List ℕ)) → p.more ≡ line ∷ others
      → 256 < length line → f ≡ TooLong (length p.done + 1) → Appends old new (told show p.text)
      → Stops limit show input unread old new f
  refusing : (p : Front limit input) (line : List ℕ) (others : List (List ℕ)) → p.more ≡ line ∷ others
      → length line ≤ 256 → LineFails p.stage (length p.done + 1) line f
      → Appends old new (told show p.text) → Stops limit show input unread old new f
  unopened : (p : Front limit input) → p.more ≡ [] → OpenFails p.stage f
      → Appends old new (told show p.text) → Stops limit show input unread old new f
  writing : f ≡ WriteFailed → (p : Front limit input) → AppendsFront old new (told show p.text)
      → Stops limit show input unread old new f
  closing : f ≡ WriteFailed → (p : Front limit input) → p.more ≡ [] → CanOpen p.stage → (behind : List ℕ)
      → IsBegunBehind show p.stage behind
      → AppendsFront old new (told show p.text ++ behind) → Stops limit show input unread old new f

-- the limit of calls, what is shown, the text, what of it the reader has not given, and what the
-- writer held and holds
abbrev pub Ends : {T : Type 0} → CallLimit → Show → List ℕ → List ℕ → Option (List ℕ) → Option (List ℕ)
    → Result T TraceFault → Type 0
Ends limit show input unread old new (Ok x) = Completes limit show input old new
Ends limit show input unread old new (Err f) = Stops limit show input unread old new f
