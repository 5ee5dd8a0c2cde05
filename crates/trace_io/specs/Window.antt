-- What a reader of lines holds.
use Rattle.std.specs.Prelude.{◌≡◌, ℕ, ◌+◌, ◌-◌, ◌*◌, ◌^◌, ◌≤◌, List, [], ◌∷◌, ◌++◌, length}
use Rattle.trace_io.specs.Lines.{IsUnbroken}

-- the line taken last, and the bytes read and not taken yet
pub record Window : Type 0 where
  pub line : List ℕ
  pub held : List ℕ

abbrev pub opening : Window
opening = record { line = []; held = [] }

-- what is still to come: the bytes held, and then those of the reader
abbrev pub left : List ℕ → Window → List ℕ
left rest w = w.held ++ rest

-- the bytes that can still come, given how often the reader was read
abbrev pub budget : ℕ → Window → ℕ
budget reads w = length w.held + 65536 * (2 ^ 32 - reads)

-- a line of allowed length was taken from the bytes held
pub record TakesHeld (old new : Window) : Type 0 where
  pub short : length new.line ≤ 256
  pub unbroken : IsUnbroken new.line
  pub held : old.held ≡ new.line ++ 10 ∷ new.held
