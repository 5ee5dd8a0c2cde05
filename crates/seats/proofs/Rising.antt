-- The tickets of notes, where there is one note more
use Rattle.std.proofs.Common.{◌≡◌, ℕ, ◌<◌, List, [], ◌∷◌, ◌++◌, map, sym, ap, ◌∙◌, subst}
use Rattle.std.specs.Prelude.{All}
use Rattle.std.proofs.lemmas.List.{map-append}
use Rattle.seats.specs.Tickets.{Rises}
use Rattle.seats.proofs.Dealing.{Rises-push}
use Rattle.seats.specs.declared.noted.Noted.{Noted}
use Rattle.seats.specs.Notes.{ticket_of}

-- the tickets after one more note
pub tickets_next : (ts ts' : List ℕ) (notes notes' : List Noted) (new : Noted) → ts ≡ map ticket_of notes → ts' ≡ ts ++ new.ticket ∷ []
    → notes' ≡ notes ++ new ∷ [] → ts' ≡ map ticket_of notes'
tickets_next ts ts' notes notes' new are is is' =
    is ∙ (ap (λ xs. xs ++ new.ticket ∷ []) are ∙ sym (ap (map ticket_of) is' ∙ map-append ticket_of notes (new ∷ [])))

pub rises_next : (ts : List ℕ) (notes notes' : List Noted) (new : Noted) → ts ≡ map ticket_of notes → Rises (map ticket_of notes)
    → notes' ≡ notes ++ new ∷ [] → All (λ t. t < new.ticket) ts → Rises (map ticket_of notes')
rises_next ts notes notes' new are rises is' above =
    subst Rises (sym (ap (map ticket_of) is' ∙ map-append ticket_of notes (new ∷ [])))
    (Rises-push (map ticket_of notes) new.ticket rises (subst (λ xs. All (λ t. t < new.ticket) xs) are above))
