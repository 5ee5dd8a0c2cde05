-- A note that is written, and what its text doesn't say.
use Rattle.machine_model.proofs.Words.{◌≡◌, List, [], ◌∷◌, arith, refl}
use Rattle.machine_model.specs.declared.event.Event.TheVariants.{Flush}
use Rattle.machine_model.specs.declared.event.Outcome.TheVariants.{Idle}
use Rattle.seats.specs.Notes.{noted}
use Rattle.seats.specs.declared.noted.Noted.{Noted}
use Rattle.trace_words.specs.Declarations.{DeclarationView, asks_for}
use Rattle.notes_text.specs.TextLaws.{FitsLine, IsDeclared, SaysNotes}
use Rattle.notes_text.specs.NotesWritten.{notes_text}
use Rattle.notes_text.proofs.ShortLines.{lines_are_short}
use Rattle.notes_text.proofs.TextOnce.{says_one}
use Rattle.notes_text.proofs.TextWritten.{written_is_said}

-- core 0 of one had nothing to flush
idle : Noted
idle = noted 0 (Flush 0) Idle

one_core : DeclarationView
one_core = asks_for 1 1 1

is_declared : IsDeclared one_core
unfolding one_core
is_declared = record { sound = refl; files = refl; bytes = tt }

fits : FitsLine idle
unfolding idle
fits = lines_are_short idle (record { ticket = omega arith; event = omega arith; outcome = tt }) (λ blocker e. absurd (cc))

-- its text says it
said : SaysNotes (notes_text one_core (idle ∷ [])) one_core (idle ∷ [])
said = written_is_said one_core (idle ∷ []) is_declared (fits, tt)

-- and doesn't say nothing
not_nothing : SaysNotes (notes_text one_core (idle ∷ [])) one_core [] → ⊥
not_nothing h =
    let (asked, notes) = says_one (notes_text one_core (idle ∷ [])) one_core one_core (idle ∷ []) [] said h in
    let same : idle ∷ [] ≡ [] = notes in absurd (cc)
