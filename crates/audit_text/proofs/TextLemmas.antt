-- Whether lines are left.
use Rattle.std.proofs.Common.{◌≡◌, ℕ, ◌<◌, List, [], ◌++◌, append_assoc, ap, ◌∙◌, codes, decimal, length, arith, true, false, Bool, eqb}
use Rattle.std.proofs.lemmas.Bool.Decides.{nat_tests}
use Rattle.audit_text.specs.Ends.{some_lacking}
use Rattle.trace_io.specs.Lines.{lines_of}
use Rattle.trace_io.proofs.TextLemmas.{lines_none}

pub lines_empty : (bs : List ℕ) (b : Bool) → b ≡ eqb (length bs) 0 → b ≡ true → lines_of bs ≡ []
lines_empty bs b is so = let none : length bs ≡ 0 = grind (arith, nat_tests, is, so) in lines_none bs none

pub some_left : (n : ℕ) (b : Bool) → b ≡ eqb n 0 → b ≡ false → 0 < n
some_left n b is not_so = grind (arith, nat_tests, is, not_so)

-- how many found no memory, behind what was written
pub some_told : (old a b new : List ℕ) (n : ℕ) → a ≡ old ++ codes ", " → b ≡ a ++ decimal n → new ≡ b ++ codes " without memory"
    → new ≡ old ++ some_lacking n
some_told old a b new n e f h =
    h ∙ ap (λ l. l ++ codes " without memory") (f ∙ ap (λ l. l ++ decimal n) e ∙ append_assoc old (codes ", ") (decimal n))
    ∙ append_assoc old (codes ", " ++ decimal n) (codes " without memory")
