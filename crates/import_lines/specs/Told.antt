-- What lines tell of threads that were made, and of programs that begin, as the code keeps it.
use Rattle.std.specs.Prelude.{◌≡◌, ℕ, List, nat_eq}
use Rattle.std.specs.HashMap.{get}
use Rattle.import_forms.specs.Speech.{Spoken}
use Rattle.import_lines.specs.Made.{first_start, last_line, tellings}
use Rattle.import_lines.specs.declared.told.Heard.{Heard}

-- what the first n lines tell
pub record Hears (all : List Spoken) (n : ℕ) (h : Heard) : Type 0 where
  pub tellings : h.tellings.items ≡ tellings all n
  pub starts : (t : ℕ) → get nat_eq h.starts t ≡ first_start all n t
  pub last : (t : ℕ) → get nat_eq h.last t ≡ last_line all n t
