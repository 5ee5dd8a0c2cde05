-- What is said of a thread before a line and after it.
use Rattle.std.proofs.Common.{◌≡◌, ℕ, ◌+◌, ◌<◌, List, [], length, drop, arith, refl, sym, ap, ◌∙◌}
use Rattle.std.proofs.Common.{true, false, eqb}
use Rattle.std.proofs.lemmas.Bool.Decides.{nat_tests}
use Rattle.std.proofs.lemmas.List.{drop_more}
use Rattle.import_lines.specs.Joining.{next_of, speech_at}
use Rattle.import_forms.specs.Speech.{Spoken}

-- this line says something else
pub next_more : (thread : ℕ) (all : List Spoken) (n : ℕ) → n < length all → eqb (speech_at all n).0 thread ≡ false
    → next_of thread (drop (n + 1) all) ≡ next_of thread (drop n all)
next_more thread all n p e = sym (ap (next_of thread) (drop_more all n (0, []) p) ∙ rw e refl)

pub next_here : (thread : ℕ) (all : List Spoken) (n : ℕ) → n < length all → eqb (speech_at all n).0 thread ≡ true
    → (speech_at all n).1 ≡ next_of thread (drop n all)
next_here thread all n p e = sym (ap (next_of thread) (drop_more all n (0, []) p) ∙ rw e refl)

pub ne-eqb : (a b : ℕ) → (a ≡ b → ⊥) → eqb a b ≡ false
ne-eqb a b h = grind (arith, nat_tests)
