-- What one turn of collecting does, and how it can fail.
use Rattle.std.specs.Prelude.{◌≡◌, ℕ, ◌+◌, ◌≤◌, List, [], ◌++◌, Bool, true, false, Result, Ok, Err, length}
use Rattle.trace_io.specs.Lines.{IsUnbroken, TakesLine, IsTooLong}
use Rattle.trace_text.specs.Words.{Word}
use Rattle.trace_words.specs.declared.fault.TraceFault.{TraceFault}
use Rattle.trace_words.specs.declared.fault.TraceFault.TheVariants.{TooLong, ReadFailed, NoMemory}
use Rattle.trace_words.specs.Collected.{Collected, Takes, Refuses, Wants}

-- what is still to come, what of it has not been read yet, and what the lines so far come to
pub record Scene (T : Type 0) : Type 0 where
  pub left : List ℕ
  pub unread : List ℕ
  pub collected : Collected T

-- a line was taken
pub record Advances {T : Type 0} (needs_calls : Bool) (Names : ℕ → T → List Word → Type 0) (old new : Scene T)
    : Type 0 where
  pub line : List ℕ
  pub next : TakesLine old.left line new.left
  pub takes : Takes needs_calls Names old.collected line new.collected

-- nothing was left
pub record IsOver {T : Type 0} (old new : Scene T) : Type 0 where
  pub ended : old.left ≡ []
  pub collected : new.collected ≡ old.collected

-- so much of what is left was read and not taken yet, at most a chunk of 65,536 bytes
abbrev pub IsHeld : {T : Type 0} → List ℕ → Scene T → Type 0
IsHeld held s = (length held ≤ 65536) × (s.left ≡ held ++ s.unread)

-- line number + 1 was not taken, for this fault
pub data Fails {T : Type 0} (needs_calls : Bool) (Names : ℕ → T → List Word → Type 0) (old new : Scene T) (number : ℕ)
    (f : TraceFault) : Type 0 where
  read_fails : f ≡ ReadFailed → (held : List ℕ) → IsUnbroken held → IsHeld held new → new.left ≡ old.left
      → Fails needs_calls Names old new number f
  too_long : f ≡ TooLong (number + 1) → IsTooLong old.left → Fails needs_calls Names old new number f
  no_memory : f ≡ NoMemory → (line held : List ℕ) → TakesLine old.left line new.left → IsHeld held new
      → Wants needs_calls Names old.collected line → Fails needs_calls Names old new number f
  refused : (line : List ℕ) → TakesLine old.left line new.left
      → Refuses needs_calls Names old.collected (number + 1) line f → Fails needs_calls Names old new number f

-- one line is taken in, or the text is over, or a fault ends it
abbrev pub Turns : {T : Type 0} → Bool → (ℕ → T → List Word → Type 0) → Scene T → Scene T → ℕ → Result Bool TraceFault → Type 0
Turns needs_calls Names old new number (Ok true) = Advances needs_calls Names old new
Turns needs_calls Names old new number (Ok false) = IsOver old new
Turns needs_calls Names old new number (Err f) = Fails needs_calls Names old new number f
