-- What is written piece by piece.
use Rattle.machine_model.proofs.Words.{◌≡◌, inl, inr, ℕ, List, Option, ◌⊎◌, refl}
use Rattle.machine_model.proofs.Words.{subst}
use Rattle.machine_model.proofs.Words.{Appends, Keeps}
use Rattle.trace_io.specs.Sink.{AppendsFront}
use Rattle.trace_io.proofs.IoLemmas.{keeps_same}
use Rattle.trace_words.specs.Declarations.{DeclarationView}
use Rattle.trace_words.specs.declared.fault.TraceFault.TheVariants.{NoMemory, WriteFailed}
use Rattle.seats.specs.declared.noted.Noted.{Noted}
use Rattle.notes_text.specs.Ordered.{AreInOrder}
use Rattle.notes_text.specs.NotesWritten.{notes_text}

pub wrote_all : (asked d : DeclarationView) (notes order slice : List Noted) (a b : Option (List ℕ)) → d ≡ asked → slice ≡ order → AreInOrder notes order
    → Appends a b (notes_text d slice) → (order : List Noted) × AreInOrder notes order × Appends a b (notes_text asked order)
wrote_all asked d notes order slice a b e f o p =
    (order, o, subst (λ l. Appends a b (notes_text asked l)) f (subst (λ x. Appends a b (notes_text x slice)) e p))

pub wrote_front : {X : Type 0} (asked d : DeclarationView) (notes order slice : List Noted) (a b : Option (List ℕ)) → d ≡ asked → slice ≡ order
    → AreInOrder notes order → AppendsFront a b (notes_text d slice)
    → X ⊎ ((WriteFailed ≡ WriteFailed) × ((order : List Noted) × AreInOrder notes order × AppendsFront a b (notes_text asked order)))
wrote_front asked d notes order slice a b e f o p =
    inr (refl, (order, o, subst (λ l. AppendsFront a b (notes_text asked l)) f (subst (λ x. AppendsFront a b (notes_text x slice)) e p)))

pub wrote_none : {X : Type 0} (a : Option (List ℕ)) → ((NoMemory ≡ NoMemory) × Keeps a a) ⊎ X
wrote_none a = inl (refl, keeps_same a)
