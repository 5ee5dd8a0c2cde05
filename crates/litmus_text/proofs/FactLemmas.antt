-- Facts, one behind another.
use Rattle.std.proofs.Common.{◌≡◌, ℕ, zero, suc, ◌-◌, ◌<◌, List, [], ◌∷◌, ◌++◌, Option, None, Some, sym, ap, refl, ◌∙◌, arith, append_assoc}
use Rattle.std.specs.Prelude.{option_map}
use Rattle.trace_text.specs.Request.{◌>>=◌}
use Rattle.trace_text.specs.Words.{Word}
use Rattle.litmus_text.specs.Facts.{front_fact, joined, joint_of, term, terms_from}
use Rattle.litmus_text.specs.declared.facts.Fact.{Fact}
use Rattle.litmus_text.specs.declared.facts.Connective.{Connective}
use Rattle.litmus_text.specs.declared.facts.Term.{Term}

-- one more, and a joint behind it
pub term_more : (left : ℕ) (joint next : Connective) (fact : Fact) (terms new : List Term) (words more others : List Word) (due : Option (List Term))
    → 0 < left → front_fact words ≡ Some (fact, more) → ((w : Word) × (more ≡ w ∷ others) × (joint_of w ≡ Some next))
    → new ≡ terms ++ term joint fact ∷ [] → option_map (λ ts. terms ++ ts) (terms_from left joint words) ≡ due
    → option_map (λ ts. new ++ ts) (terms_from (left - 1) next others) ≡ due
term_more zero joint next fact terms new words more others due p f j e h = absurd (omega (arith, p))
term_more (suc n) joint next fact terms new words more others due p f j e h =
    let k : suc n - 1 ≡ n = omega arith in
    let step : terms_from (suc n) joint words ≡ option_map (λ ts. term joint fact ∷ ts) (terms_from n next others) =
    ap (λ o. o >>= λ first. joined (terms_from n) (term joint first.0) first.1) f
    ∙ ap (λ ws. joined (terms_from n) (term joint fact) ws) j.1
    ∙ ap (λ o. o >>= λ t. option_map (λ ts. term joint fact ∷ ts) (terms_from n t others)) j.2 in
    ap (λ i. option_map (λ ts. new ++ ts) (terms_from i next others)) k
    ∙ pushed (terms_from n next others) ∙ sym (ap (option_map (λ ts. terms ++ ts)) step) ∙ h
  where
    pushed : (o : Option (List Term)) → option_map (λ ts. new ++ ts) o ≡ option_map (λ ts. terms ++ ts) (option_map (λ ts. term joint fact ∷ ts) o)
    pushed None = refl
    pushed (Some ts) = ap (λ l. Some (l ++ ts)) e ∙ ap Some (append_assoc terms (term joint fact ∷ []) ts)
