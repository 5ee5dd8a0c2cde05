-- What one turn of a replay does, and how it can fail.
use Rattle.std.specs.Prelude.{◌≡◌, ℕ, ◌+◌, ◌≤◌, List, [], ◌++◌, Bool, true, false, Option, Result, Ok, Err}
use Rattle.std.specs.Prelude.{length}
use Rattle.std.specs.Io.KnownBytes.{Keeps, Appends}
use Rattle.trace_io.specs.Lines.{IsUnbroken, TakesLine, IsTooLong}
use Rattle.trace_io.specs.Sink.{AppendsFront}
use Rattle.trace_words.specs.declared.fault.TraceFault.{TraceFault}
use Rattle.trace_words.specs.declared.fault.TraceFault.TheVariants.{TooLong, ReadFailed, NoMemory}
use Rattle.trace_words.specs.declared.fault.TraceFault.TheVariants.{WriteFailed}
use Rattle.trace.specs.Stage.{Stage, LineFails, LineWants, Acts}

-- what is still to come, what of it has not been read yet, the stage, and what the writer holds
pub record Scene : Type 0 where
  pub left : List ℕ
  pub unread : List ℕ
  pub stage : Stage
  pub written : Option (List ℕ)

abbrev pub scene : List ℕ → List ℕ → Stage → Option (List ℕ) → Scene
scene left unread stage written = record { left = left; unread = unread; stage = stage; written = written }

-- a line was taken, acted on, and what is shown of it and its text was written
pub record Advances (shown : List ℕ → List ℕ → List ℕ) (old new : Scene) : Type 0 where
  pub line : List ℕ
  pub text : List ℕ
  pub takes : TakesLine old.left line new.left
  pub acts : Acts old.stage line new.stage text
  pub appends : Appends old.written new.written (shown line text)

-- nothing was left
pub record IsOver (old new : Scene) : Type 0 where
  pub ended : old.left ≡ []
  pub stage : new.stage ≡ old.stage
  pub written : Keeps old.written new.written

-- so much of what is left was read and not taken yet, at most a chunk of 65,536 bytes
abbrev pub IsHeld : List ℕ → Scene → Type 0
IsHeld held s = (length held ≤ 65536) × (s.left ≡ held ++ s.unread)

-- line number + 1 was not acted on, for this fault, or not shown whole
pub data Fails (keeps : Bool) (shown : List ℕ → List ℕ → List ℕ) (old new : Scene) (number : ℕ) (f : TraceFault) : Type 0 where
  read_fails : f ≡ ReadFailed → (held : List ℕ) → IsUnbroken held → IsHeld held new
      → new.left ≡ old.left → Keeps old.written new.written → Fails keeps shown old new number f
  unsent : f ≡ WriteFailed → Keeps old.written new.written → Fails keeps shown old new number f
  too_long : f ≡ TooLong (number + 1) → IsTooLong old.left → Keeps old.written new.written
      → Fails keeps shown old new number f
  no_memory : f ≡ NoMemory → (line held : List ℕ) → TakesLine old.left line new.left → IsHeld held new
      → LineWants keeps old.stage line → Keeps old.written new.written → Fails keeps shown old new number f
  refused : (line : List ℕ) → TakesLine old.left line new.left → LineFails old.stage (number + 1) line f
      → Keeps old.written new.written → Fails keeps shown old new number f
  unwritten : f ≡ WriteFailed → (line text : List ℕ) → TakesLine old.left line new.left → Acts old.stage line new.stage text
      → AppendsFront old.written new.written (shown line text) → Fails keeps shown old new number f

-- one line is replayed, or the text is over, or a fault ends it; a log is kept or not, and this is shown of a line and its text
abbrev pub Turns : Bool → (List ℕ → List ℕ → List ℕ) → Scene → Scene → ℕ → Result Bool TraceFault → Type 0
Turns keeps shown old new number (Ok true) = Advances shown old new
Turns keeps shown old new number (Ok false) = IsOver old new
Turns keeps shown old new number (Err f) = Fails keeps shown old new number f
