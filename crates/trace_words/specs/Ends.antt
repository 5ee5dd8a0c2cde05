-- How the collecting of a whole text ends.
use Rattle.std.specs.Prelude.{◌≡◌, ℕ, ◌+◌, ◌<◌, ◌≤◌, Bool, List, [], ◌∷◌, ◌++◌, Option, None, Some, Result, Ok, Err, length}
use Rattle.trace_io.specs.Lines.{lines_of, IsUnbroken}
use Rattle.trace_text.specs.Words.{Word}
use Rattle.machine_model.specs.declared.setup.SetupFault.{SetupFault}
use Rattle.trace_words.specs.declared.fault.TraceFault.{TraceFault}
use Rattle.trace_words.specs.declared.fault.TraceFault.TheVariants.{TooLong, ReadFailed, NoVmLine, NoMemory, Setup}
use Rattle.trace_words.specs.Declarations.{DeclarationView, asked_fault}
use Rattle.trace_io.specs.Taken.{AreRead}
use Rattle.trace_words.specs.Collected.{Collected, nothing, TakesAll, Refuses, Wants}

-- all lines were taken, and a space can be made
pub record Collects {T : Type 0} (needs_calls : Bool) (Names : ℕ → T → List Word → Type 0) (input : List ℕ)
    (asked : DeclarationView) (items : List T) : Type 0 where
  pub takes : TakesAll needs_calls Names nothing (lines_of input) (record { asked = Some asked; items = items })
  pub sound : asked_fault asked ≡ None

-- the first lines, and what they come to
pub record Front {T : Type 0} (needs_calls : Bool) (Names : ℕ → T → List Word → Type 0) (input : List ℕ)
    : Type 0 where
  pub done : List (List ℕ)
  pub more : List (List ℕ)
  pub collected : Collected T
  pub lines : lines_of input ≡ done ++ more
  pub takes : TakesAll needs_calls Names nothing done collected

-- why no space can be made at the end
abbrev pub CannotMake : Option DeclarationView → TraceFault → Type 0
CannotMake None f = f ≡ NoVmLine
CannotMake (Some asked) f = (own : SetupFault) × (asked_fault asked ≡ Some own) × (f ≡ Setup own)

-- Why a text wasn't collected, and how much of it was read: after a failed read no newline is among what was read behind the
-- lines that were taken. Memory may be wanting before anything is read (unmade), and for an item;
-- then no more than its line was read.
pub data Stops {T : Type 0} (needs_calls : Bool) (Names : ℕ → T → List Word → Type 0) (input unread : List ℕ)
    (f : TraceFault) : Type 0 where
  reading : f ≡ ReadFailed → (p : Front needs_calls Names input) (r : AreRead input unread p.done) → IsUnbroken r.held
      → Stops needs_calls Names input unread f
  unmade : f ≡ NoMemory → unread ≡ input → Stops needs_calls Names input unread f
  wanting : f ≡ NoMemory → (p : Front needs_calls Names input) (line : List ℕ) (others : List (List ℕ))
      → p.more ≡ line ∷ others → AreRead input unread (p.done ++ line ∷ [])
      → Wants needs_calls Names p.collected line → Stops needs_calls Names input unread f
  overlong : (p : Front needs_calls Names input) (line : List ℕ) (others : List (List ℕ)) → p.more ≡ line ∷ others
      → 256 < length line → f ≡ TooLong (length p.done + 1) → Stops needs_calls Names input unread f
  refusing : (p : Front needs_calls Names input) (line : List ℕ) (others : List (List ℕ)) → p.more ≡ line ∷ others
      → length line ≤ 256 → Refuses needs_calls Names p.collected (length p.done + 1) line f
      → Stops needs_calls Names input unread f
  unopened : (p : Front needs_calls Names input) → p.more ≡ [] → CannotMake p.collected.asked f
      → Stops needs_calls Names input unread f
