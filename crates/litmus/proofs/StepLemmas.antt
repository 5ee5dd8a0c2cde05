-- Notes in order of their tickets, one after another
use Rattle.std.proofs.Common.{◌≡◌, ℕ, ◌+◌, List, [], ◌∷◌, ◌++◌, map, sym, ap, ◌∙◌}
use Rattle.std.proofs.lemmas.List.{map-append}
use Rattle.machine_model.proofs.Words.{add-one}
use Rattle.seats.specs.declared.noted.Noted.{Noted}
use Rattle.certifier.specs.Order.{in_order, with_ticket}

-- with the note of the next ticket
order_more : (notes : List Noted) (t : ℕ) (x : Noted) → with_ticket t notes ≡ x ∷ [] → in_order (t + 1) notes ≡ in_order t notes ++ x ∷ []
order_more notes t x is = ap (λ k. in_order k notes) (add-one t) ∙ ap (λ ys. in_order t notes ++ ys) is

-- what is read of the notes
pub read_more : {X : Type 0} (f : Noted → X) (notes : List Noted) (t : ℕ) (x : Noted) (old new : List X) → with_ticket t notes ≡ x ∷ []
    → old ≡ map f (in_order t notes) → new ≡ old ++ f x ∷ [] → new ≡ map f (in_order (t + 1) notes)
read_more f notes t x old new is before more =
    more ∙ ap (λ xs. xs ++ f x ∷ []) before ∙ sym (ap (map f) (order_more notes t x is) ∙ map-append f (in_order t notes) (x ∷ []))
