use Rattle.std.proofs.Common.{◌≡◌, ◌++◌}
use Rattle.std.specs.Prelude.{option_map}
use Rattle.trace_text.specs.Words.{words_of}
use Rattle.litmus_text.specs.Facts.{terms_from, terms_of}
use Rattle.litmus_text.proofs.facts.read_terms.Given as goal

-- the facts so far, and those that the words say that are left, are all
abbrev pub invariant-terms : goal.invariant-terms
invariant-terms g l =
    option_map (λ ts. l.terms.items ++ ts) (terms_from l.left l.joint (words_of l.rest)) ≡ terms_of (words_of l.words)

abbrev pub decreases-terms : goal.decreases-terms
decreases-terms g l = l.left
