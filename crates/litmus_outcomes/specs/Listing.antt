-- A list of outcomes in the making
use Rattle.std.specs.Prelude.{◌≡◌, ℕ, Bool, List, length, slice_get, Some, Vec}
use Rattle.vm_base.specs.Plain.{Plain}
use Rattle.machine_model.specs.declared.event.Event.{Event}
use Rattle.machine_model.specs.World.{Made}
use Rattle.litmus_merges.specs.declared.asked.Asked.{Asked}
use Rattle.litmus_merges.specs.declared.ending.End.{End}
use Rattle.litmus_outcomes.specs.declared.outcome.LitmusOutcome.{LitmusOutcome}
use Rattle.litmus_outcomes.specs.Outcomes.{IsWitness}

-- the outcome's witness, if it has one, is one
abbrev pub IsSeen : {A : Type 0} → Made → List Event → Plain → List Asked → List Asked → Bool → LitmusOutcome A → Type 0
IsSeen {A} made opening t calls loads maps one = (events : Vec Event A) → one.witness ≡ Some events
    → IsWitness made opening t calls loads maps one.replies.items one.finals.items one.maps.items events.items

-- so it is with each
abbrev pub AreSeen : {A : Type 0} → Made → List Event → Plain → List Asked → List Asked → Bool → List (LitmusOutcome A) → Type 0
AreSeen {A} made opening t calls loads maps list = (k : ℕ) (one : LitmusOutcome A) → slice_get list k ≡ Some one
    → IsSeen made opening t calls loads maps one

-- the outcome has the replies, finals and mappings of the end
pub record IsOf {A : Type 0} (end : End A) (one : LitmusOutcome A) : Type 0 where
  pub replies : one.replies.items ≡ end.replies.items
  pub finals : one.finals.items ≡ end.finals.items
  pub maps : one.maps.items ≡ end.maps.items

-- the outcome at a place is that of the end there
abbrev pub AreListed : {A : Type 0} → List (End A) → List (LitmusOutcome A) → Type 0
AreListed {A} ends list = (length list ≡ length ends)
    × ((k : ℕ) (end : End A) (one : LitmusOutcome A) → slice_get ends k ≡ Some end → slice_get list k ≡ Some one → IsOf end one)
