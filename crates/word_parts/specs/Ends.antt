-- How a word of the program ends.
use Rattle.std.specs.Prelude.{◌≡◌, ℕ, List, Option}
use Rattle.trace_io.specs.Io.{ReadFrom, WrittenTo}
use Rattle.trace_io.specs.Source.{Reads}

-- It ends in one way, which gives the status. What was read and written is as `Ended` says of that end, and what failed as `Tells` does.
abbrev pub EndsInOneWay : {R : Type 0} → (R → ℕ) → (List ℕ → List ℕ → Option (List ℕ) → Option (List ℕ) → R → Type 0)
    → (R → ReadFrom → WrittenTo → Type 0) → ReadFrom → WrittenTo → ℕ → Type 0
EndsInOneWay {R} status Ended Tells text out n = (r : R) × (n ≡ status r)
    × Reads text.before text.after (λ input unread. Ended input unread out.before out.after r)
    × Tells r text out
