-- How writing notes ends
use Rattle.std.specs.Prelude.{◌≡◌, ℕ, ◌⊎◌, List, Option, Result, Ok, Err}
use Rattle.std.specs.Io.KnownBytes.{Keeps, Appends}
use Rattle.seats.specs.declared.noted.Noted.{Noted}
use Rattle.trace_io.specs.Sink.{AppendsFront}
use Rattle.trace_words.specs.declared.fault.TraceFault.{TraceFault}
use Rattle.trace_words.specs.declared.fault.TraceFault.TheVariants.{NoMemory, WriteFailed}
use Rattle.trace_words.specs.Declarations.{DeclarationView}
use Rattle.notes_text.specs.Ordered.{AreInOrder}
use Rattle.notes_text.specs.NotesWritten.{notes_text}

-- The text of the notes in order was written; after a failed write or flush a front of it, and where memory was wanting
-- nothing.
abbrev pub Writes : {T : Type 0} → DeclarationView → List Noted → Option (List ℕ) → Option (List ℕ) → Result T TraceFault → Type 0
Writes asked notes old new (Ok x) = (order : List Noted) × AreInOrder notes order × Appends old new (notes_text asked order)
Writes asked notes old new (Err f) = ((f ≡ NoMemory) × Keeps old new)
    ⊎ ((f ≡ WriteFailed) × ((order : List Noted) × AreInOrder notes order × AppendsFront old new (notes_text asked order)))
