-- The next line of a thread.
use Rattle.std.proofs.Common.{◌≡◌, ℕ, ◌+◌, ◌<◌, true, false, List, [], Some, length, drop, refl, sym, ap, ◌∙◌, eqb}
use Rattle.std.proofs.lemmas.List.{drop_more}
use Rattle.import_forms.specs.Speech.{Spoken}
use Rattle.import_lines.specs.Joining.{speech_at}
use Rattle.import_lines.specs.Torn.{next_text}

pub text_more : (thread : ℕ) (all : List Spoken) (n : ℕ) → n < length all → eqb (speech_at all n).0 thread ≡ false
    → next_text thread (drop (n + 1) all) ≡ next_text thread (drop n all)
text_more thread all n p e = sym (ap (next_text thread) (drop_more all n (0, []) p) ∙ rw e refl)

pub text_here : (thread : ℕ) (all : List Spoken) (n : ℕ) → n < length all → eqb (speech_at all n).0 thread ≡ true
    → next_text thread (drop n all) ≡ Some (speech_at all n).1
text_here thread all n p e = ap (next_text thread) (drop_more all n (0, []) p) ∙ rw e refl
