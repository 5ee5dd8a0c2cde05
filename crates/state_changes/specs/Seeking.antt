-- The first of a trace's states whose text has these words
use Rattle.std.specs.Prelude.{◌≡◌, ℕ, ◌<◌, true, false, List}
use Rattle.memchr.specs.Find.{OccursAt}
use Rattle.state_changes.specs.declared.seeking.Sought.{Sought}

-- the words stand somewhere in the text
abbrev pub HasWords : List ℕ → List ℕ → Type 0
HasWords words text = (place : ℕ) × OccursAt text words place

-- Behind so many lines the text has the words, or none has, behind none of all lines. Behind fewer lines none has.
pub record Seeks (words : List ℕ) (all : ℕ) (text_behind : ℕ → List ℕ) (s : Sought) : Type 0 where
  pub is : s.text.items ≡ text_behind s.lines
  pub before : (n : ℕ) → n < s.lines → ¬ HasWords words (text_behind n)
  pub has : s.has ≡ true → HasWords words (text_behind s.lines)
  pub none : s.has ≡ false → (s.lines ≡ all) × ¬ HasWords words (text_behind s.lines)
