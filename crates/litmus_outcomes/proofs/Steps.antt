-- Steps of a core, one after another
use Rattle.std.proofs.Common.{◌≡◌, ℕ, ◌+◌, List, [], ◌∷◌, ◌++◌, append_assoc, append-nil, replicate, refl, sym, ◌∙◌, ap, subst}
use Rattle.std.proofs.lemmas.List.{replicate_more}

-- these, and then some more of the same
abbrev pub GoesOn : {A : Type 0} → List A → A → List A → Type 0
GoesOn old step new = (n : ℕ) × (new ≡ old ++ replicate n step)

pub goes_none : {A : Type 0} (old new : List A) (step : A) → new ≡ old → GoesOn old step new
goes_none old new step same = (0, same ∙ sym (append-nil old))

pub goes_more : {A : Type 0} (old new more : List A) (step : A) → GoesOn old step new → more ≡ new ++ step ∷ [] → GoesOn old step more
goes_more {A} old new more step h is = (
  h.0 + 1,
  is
      ∙ (ap (λ (xs : List A). xs ++ step ∷ []) h.1
      ∙ (append_assoc old (replicate h.0 step) (step ∷ []) ∙ ap (λ (xs : List A). old ++ xs) (replicate_more h.0 step))),
)
