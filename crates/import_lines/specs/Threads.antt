-- The lines of a log that name no thread.
use Rattle.std.specs.Prelude.{ℕ, if◌then◌else◌, ◌==◌}
use Rattle.import_forms.specs.Speech.{Spoken}

-- what is said of thread 0, a line that names none, is said of this one
abbrev pub renamed : ℕ → Spoken → Spoken
renamed first s = (if s.0 == 0 then first else s.0, s.1)
