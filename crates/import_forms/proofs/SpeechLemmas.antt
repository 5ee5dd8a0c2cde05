-- The lines of a log, and what they say.
use Rattle.std.proofs.Common.{◌≡◌, ℕ, List, [], ◌∷◌, ◌++◌, map, sym, ap, ◌∙◌}
use Rattle.std.proofs.Common.{append_assoc}
use Rattle.std.proofs.lemmas.List.{map_push}
use Rattle.trace_io.specs.Lines.{lines_of}
use Rattle.import_forms.specs.Speech.{Spoken, speech_of}

-- one more line was read
pub one_more : {X : Type 0} (f : X → Spoken) (xs : List X) (x : X) (log rest line more : List ℕ) → lines_of rest ≡ line ∷ lines_of more → f x ≡ speech_of line
    → map f xs ++ map speech_of (lines_of rest) ≡ map speech_of (lines_of log)
    → map f (xs ++ x ∷ []) ++ map speech_of (lines_of more) ≡ map speech_of (lines_of log)
one_more f xs x log rest line more l s h =
    ap (λ ys. ys ++ map speech_of (lines_of more)) (map_push f xs x)
    ∙ append_assoc (map f xs) (f x ∷ []) (map speech_of (lines_of more))
    ∙ ap (λ y. map f xs ++ y ∷ map speech_of (lines_of more)) s
    ∙ ap (λ ls. map f xs ++ map speech_of ls) (sym l) ∙ h
