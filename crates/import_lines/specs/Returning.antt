-- The whole text of a call, and the line in which it began, at the line in which it returns.
use Rattle.std.specs.Prelude.{ℕ, List, Option, None, Some}
use Rattle.import_forms.specs.Speech.{Spoken, begun_of, returned_of}
use Rattle.import_forms.specs.Tokens.{Token}
use Rattle.import_lines.specs.Joining.{front_for, joined, last_of, speech_at}

-- of a line with this text, and its thread's last text: a call that only begins there doesn't return
abbrev pub returned_by : List ℕ → List ℕ → Option (List ℕ) → Option (Token × List ℕ) → Option (List ℕ)
returned_by text earlier (Some front) r = None
returned_by text earlier None (Some r) = Some (joined (front_for r.0 (begun_of earlier)) r.1)
returned_by text earlier None None = Some text

-- the whole text of the call that returns at line k, if one does
abbrev pub returned_at : List Spoken → ℕ → Option (List ℕ)
returned_at all k =
    let s = speech_at all k in
    returned_by s.1 (last_of s.0 all k) (begun_of s.1) (returned_of s.1)
