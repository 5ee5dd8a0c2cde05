-- What certifying notes of a script beside histories of slots comes to
use Rattle.std.specs.Prelude.{◌≡◌, ℕ, Bool, List, map, ⊤, None, Some}
use Rattle.vm_base.specs.declared.page.PageRange.{PageRange}
use Rattle.slot_lock.specs.Slots.{Slots}
use Rattle.live_levels.specs.declared.close.SlotHistory.{SlotHistory}
use Rattle.seats.specs.Notes.{SeatView, ticket_of}
use Rattle.seats.specs.Tickets.{Rises}
use Rattle.seats.specs.declared.noted.Noted.{Noted}
use Rattle.certifier.specs.declared.result.CertifyFault.{CertifyFault}
use Rattle.certifier.specs.declared.result.CertifyFault.TheVariants.{NoMemory, Setup, Ticket}
use Rattle.certifier.specs.Following.{IsCertified, Fails}
use Rattle.certifier.specs.Order.{all_notes}
use Rattle.trace_words.specs.Declarations.{DeclarationView, asked_fault}
use Rattle.notes_text.specs.Verdicts.{Made}

-- all that the seats noted
abbrev pub notes_in : List SeatView → List Noted
notes_in seats = all_notes (map (λ s. s.notes) seats)

-- their tickets rise from note to note
abbrev pub AreRising : List Noted → Type 0
AreRising notes = Rises (map ticket_of notes)

-- in a space as it is asked for these notes are certified beside these histories
pub record IsCertifiedRun (A : Type 0) (parts : PageRange → ℕ → ℕ → Bool) (CanFold : Slots → ℕ → Type 0)
    (Folds : Slots → Slots → ℕ → Type 0) (asked : DeclarationView) (notes : List Noted) (slots : List (SlotHistory A)) (calls : ℕ) : Type 0 where
  pub made : Made A asked
  pub certified : IsCertified parts CanFold Folds made.setup notes slots calls

-- the fault isn't that of a ticket that doesn't stand once
abbrev pub IsNoTicket : CertifyFault → Type 0
IsNoTicket (Ticket t) = ⊥
IsNoTicket fault = ⊤

-- Why they aren't: the declaration is at fault, or memory is wanting, or as certifying says.
abbrev pub FailsRun : (A : Type 0) → (PageRange → ℕ → ℕ → Bool) → (Slots → ℕ → Type 0) → (Slots → Slots → ℕ → Type 0)
    → DeclarationView → List Noted → List (SlotHistory A) → CertifyFault → Type 0
FailsRun A parts CanFold Folds asked notes slots (Setup fault) = asked_fault asked ≡ Some fault
FailsRun A parts CanFold Folds asked notes slots NoMemory = asked_fault asked ≡ None
FailsRun A parts CanFold Folds asked notes slots fault = (made : Made A asked) × Fails parts CanFold Folds made.setup notes slots fault
