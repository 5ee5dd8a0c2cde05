-- The events of lines
use Rattle.std.proofs.Common.{◌≡◌, ℕ, ◌<◌, ◌≤◌, ◌+◌, List, [], ◌∷◌, ◌++◌, append_assoc, append-nil, drop, get_or, length, refl, sym, ◌∙◌, ap, subst}
use Rattle.std.proofs.lemmas.List.{drop_all, drop_more}
use Rattle.machine_model.specs.declared.event.Event.{Event}
use Rattle.litmus_outcomes.specs.declared.outcome.Opened.{Opened}
use Rattle.litmus_outcomes.specs.Outcomes.{AreLines, IsLine}

-- with the events of the lines to come they are those of all lines
abbrev pub Opens : List Opened → ℕ → List Event → Type 0
Opens lines k events = (rest : List Event) → AreLines (drop k lines) rest → AreLines lines (events ++ rest)

pub opens_first : (lines : List Opened) (events : List Event) → events ≡ [] → Opens lines 0 events
opens_first lines events none rest h = subst (λ (es : List Event). AreLines lines (es ++ rest)) (sym none) h

pub opens_more : (lines : List Opened) (k : ℕ) (line : Opened) (events first new : List Event) → k < length lines → line ≡ get_or lines k line → IsLine line first
    → new ≡ events ++ first → Opens lines k events → Opens lines (k + 1) new
opens_more lines k line events first new within is its more h rest left =
    let here : AreLines (line ∷ drop (k + 1) lines) (first ++ rest) = (first, rest, its, left, refl) in
    let there : AreLines (drop k lines) (first ++ rest) =
    subst (λ (ls : List Opened). AreLines ls (first ++ rest)) (sym (drop_more lines k line within))
    (subst (λ (l : Opened). AreLines (l ∷ drop (k + 1) lines) (first ++ rest)) is here) in
    subst (AreLines lines) (sym (append_assoc events first rest) ∙ ap (λ (es : List Event). es ++ rest) (sym more)) (h (first ++ rest) there)

pub opens_all : (lines : List Opened) (k : ℕ) (events : List Event) → length lines ≤ k → Opens lines k events → AreLines lines events
opens_all lines k events end h =
    subst (AreLines lines) (append-nil events) (h [] (subst (λ (ls : List Opened). AreLines ls []) (sym (drop_all k lines end)) refl))
