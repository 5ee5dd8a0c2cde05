-- What lists of notes come to next, in order of tickets
use Rattle.std.specs.Prelude.{◌≡◌, ℕ, ◌<◌, ◌≤◌, nat_lt, Bool, true, List, [], ◌∷◌, get_or, Option, None, Some}
use Rattle.seats.specs.declared.noted.Noted.{Noted}
use Rattle.notes_text.specs.declared.merging.Head.{Head}

-- Of the first n lists the one at k begins with the note, behind which is the rest: no list begins with a lesser ticket, and none before it with that one.
pub record IsLeast (n : ℕ) (lists : List (List Noted)) (k : ℕ) (note : Noted) (rest : List Noted) : Type 0 where
  pub within : k < n
  pub is : get_or lists k [] ≡ note ∷ rest
  pub least : (j : ℕ) (x : Noted) (xs : List Noted) → j < n → get_or lists j [] ≡ x ∷ xs → note.ticket ≤ x.ticket
  pub first : (j : ℕ) (x : Noted) (xs : List Noted) → j < k → get_or lists j [] ≡ x ∷ xs → note.ticket < x.ticket

-- the least head of the first n lists, if there is one
abbrev pub IsBest : ℕ → List (List Noted) → Option Head → Type 0
IsBest n lists None = (j : ℕ) → j < n → get_or lists j [] ≡ []
IsBest n lists (Some head) = (note : Noted) × (rest : List Noted) × (note.ticket ≡ head.ticket) × IsLeast n lists head.at note rest

-- the ticket is below that of the head, or there is none
abbrev pub is_before : Option Head → ℕ → Bool
is_before None ticket = true
is_before (Some head) ticket = nat_lt ticket head.ticket
