-- What a page shows
use Rattle.std.specs.Prelude.{◌≡◌, ℕ, List, [], ◌∷◌, take, drop, zero, suc}
use Rattle.state_text.specs.declared.form.Form.TheVariants.{Text}
use Rattle.state_text.specs.Traces.{Told, told_text}
use Rattle.state_changes.specs.Leads.{IsTold}
use Rattle.state_changes.specs.Recorded.{MomentOf, Recorded, changed}
use Rattle.state_changes.specs.Spans.{span_of}

-- the steps, one after another, make this of a text
abbrev pub all_changed : List ℕ → List MomentOf → List ℕ
all_changed text [] = text
all_changed text (m ∷ ms) = all_changed (changed text m) ms

-- the text behind the first n lines: the steps of each line in turn make it of the one before it
abbrev pub text_behind : ℕ → List (List ℕ) → List MomentOf → List ℕ → List ℕ
text_behind zero lines ms text = text
text_behind (suc n) [] ms text = text
text_behind (suc n) (l ∷ ls) ms text = text_behind n ls (drop (span_of l ms) ms) (all_changed text (take (span_of l ms) ms))

-- behind each line that is the text of the state to which the lines up to there lead, and of its mappings, which `state --at` writes
abbrev pub ShowsStates : List (List ℕ) → Recorded → Type 0
ShowsStates lines r = (n : ℕ) → (t : Told) × IsTold (take n lines) t × (text_behind n lines r.moments r.first ≡ told_text Text t)
