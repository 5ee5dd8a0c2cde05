-- The lines that ask for steps, line by line
use Rattle.std.proofs.Common.{◌≡◌, ℕ, List, [], ◌∷◌, ◌++◌, ap, sym, ◌∙◌, append_assoc, append-nil, length, arith, refl}
use Rattle.trace_io.specs.Lines.{lines_of}
use Rattle.watched.specs.Sums.{more}
use Rattle.draw_records.specs.Lines.{asked_by, asking_from, asking_lines}
use Rattle.draw_records.specs.declared.lines.Asking.{Asking}

-- one line more is looked at
pub line_asked : (all next whole : List Asking) (number to : ℕ) (line rest behind : List ℕ) → lines_of rest ≡ line ∷ lines_of behind
    → next ≡ all ++ asking_lines number line → to ≡ more number 1 → all ++ asking_from number (lines_of rest) ≡ whole
    → next ++ asking_from to (lines_of behind) ≡ whole
line_asked all next whole number to line rest behind ls is n same =
    ap (λ k. next ++ asking_from k (lines_of behind)) n
    ∙ (ap (λ xs. xs ++ asking_from (more number 1) (lines_of behind)) is
    ∙ (append_assoc all (asking_lines number line) (asking_from (more number 1) (lines_of behind))
    ∙ (ap (λ (l : List (List ℕ)). all ++ asking_from number l) (sym ls) ∙ same)))

no_lines : (rest : List ℕ) → length rest ≡ 0 → lines_of rest ≡ []
no_lines [] e = refl
no_lines (x ∷ xs) e = absurd (omega (arith, e))

-- none is left
pub all_asked : (all whole : List Asking) (number : ℕ) (rest : List ℕ) → length rest ≡ 0 → all ++ asking_from number (lines_of rest) ≡ whole → all ≡ whole
all_asked all whole number rest e same =
    sym (append-nil all) ∙ (ap (λ (l : List (List ℕ)). all ++ asking_from number l) (sym (no_lines rest e)) ∙ same)
