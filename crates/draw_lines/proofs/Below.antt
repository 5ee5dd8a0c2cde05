-- Where cores are in danger, core by core
use Rattle.std.proofs.Common.{◌≡◌, ℕ, ◌+◌, List, [], ◌++◌, refl, ap, sym, ◌∙◌, add-one, append-nil}
use Rattle.draw_steps.proofs.Joined.{grow}
use Rattle.draw_steps.specs.declared.moments.Recorded.{Recorded}
use Rattle.draw_lines.specs.Dangers.{danger_at, dangers_below}
use Rattle.draw_lines.specs.declared.dangers.Danger.{Danger}

none : {A : Type 0} (old front : List A) → front ≡ [] → old ≡ old ++ front
none old front e = sym (ap (λ l. old ++ l) e ∙ append-nil old)

dangers_none : (all : List Recorded) (sender cores column : ℕ) → dangers_below all sender cores column 0 ≡ []
unfolding dangers_below
dangers_none all sender cores column = refl

dangers_next : (all : List Recorded) (sender cores column n : ℕ)
    → dangers_below all sender cores column (n + 1) ≡ dangers_below all sender cores column n ++ danger_at all sender cores n column
unfolding dangers_below
dangers_next all sender cores column n = rw add-one refl

pub dangers_begun : (old : List Danger) (all : List Recorded) (sender cores column : ℕ) → old ≡ old ++ dangers_below all sender cores column 0
dangers_begun old all sender cores column = none old _ (dangers_none all sender cores column)

pub dangers_grown : (old now next : List Danger) (all : List Recorded) (sender cores column n core : ℕ) → core ≡ n
    → now ≡ old ++ dangers_below all sender cores column n → next ≡ now ++ danger_at all sender cores core column
    → next ≡ old ++ dangers_below all sender cores column (n + 1)
dangers_grown old now next all sender cores column n core is e f = grow old _ _ now next e f
    ∙ ap (λ l. old ++ l) (ap (λ k. dangers_below all sender cores column n ++ danger_at all sender cores k column) is
    ∙ sym (dangers_next all sender cores column n))
