-- What each line of a trace changes in the text of the state
use Rattle.std.specs.Prelude.{◌≡◌, ℕ, suc, ◌<◌, List, length, take}
use Rattle.state_text.specs.declared.form.Form.TheVariants.{Text}
use Rattle.state_text.specs.Traces.{Told, told_text}
use Rattle.state_changes.specs.Leads.{IsTold}
use Rattle.state_changes.specs.Marks.{SaysDifference}
use Rattle.trace.specs.Numbered.{text_at}
use Rattle.state_changes.specs.Pages.{text_behind}
use Rattle.state_changes.specs.Recorded.{Recorded}

-- a text for each line, which says what its steps change in the text of the state
pub record SaysSteps (lines : List (List ℕ)) (r : Recorded) (texts : List (List ℕ)) : Type 0 where
  pub all : length texts ≡ length lines
  pub says : (n : ℕ) → n < length lines
      → SaysDifference (text_at n texts) (text_behind n lines r.moments r.first) (text_behind (suc n) lines r.moments r.first)

-- A text for each line, which says how the state behind it differs from that before it: both are those that `state --at` writes. They are
-- one chain, so that the texts up to a line, one after another, make of the first state the one behind it.
pub record SaysChanges (lines texts : List (List ℕ)) : Type 0 where
  pub behind : ℕ → Told
  pub told : (n : ℕ) → IsTold (take n lines) (behind n)
  pub all : length texts ≡ length lines
  pub says : (n : ℕ) → n < length lines → SaysDifference (text_at n texts) (told_text Text (behind n)) (told_text Text (behind (suc n)))
