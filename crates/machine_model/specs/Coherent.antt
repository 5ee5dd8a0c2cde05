-- Tables, TLBs and messages between two steps: what a core may translate by is what the page's slot
-- says, or is about to go
use Rattle.std.specs.Prelude.{◌≡◌, ◌≢◌, ℕ, ◌⊎◌, true, false, List, [], ◌∷◌, Option, None, Some}
use Rattle.vm_base.specs.declared.info.PageInfo.{PageInfo}
use Rattle.vm_base.specs.declared.page.PageRange.{PageRange}
use Rattle.vm_base.specs.Functions.{has}
use Rattle.vm_base.specs.Info.{frame_of, is_recorded}
use Rattle.mmu.specs.declared.entry.Translation.{Translation}
use Rattle.mmu.specs.declared.tlb.TlbEntry.{TlbEntry}
use Rattle.mmu.specs.Entry.{has_right}
use Rattle.mmu.specs.declared.message.Message.{Message}
use Rattle.mmu.specs.Messages.{message_of}
use Rattle.slot_lock.specs.Slots.{Slots}
use Rattle.machine_model.specs.declared.event.Event.{Event}
use Rattle.machine_model.specs.declared.event.Outcome.{Outcome}
use Rattle.machine_model.specs.declared.phase.Phase.{Phase}
use Rattle.machine_model.specs.Holding.{awaits_in, taken_in}
use Rattle.machine_model.specs.Translating.{entry_of_page}
use Rattle.machine_model.specs.World.{World, Made, Hardware, new_world}
use Rattle.machine_model.specs.Step.{Step}
use Rattle.machine_model.specs.Orderly.{IsOrderly}

-- each of the list is such
abbrev pub Every : {A : Type 0} → (A → Type 0) → List A → Type 0
Every P [] = Unit {0}
Every P (x ∷ xs) = P x × Every P xs

-- ---- translations

-- some access of the page is allowed
abbrev pub AllowsSome : Option PageInfo → Type 0
AllowsSome None = ⊥
AllowsSome (Some info) = has_right info.meta.prot ≡ true

-- the translation is what the page's frame and protection give, and the core is recorded on the
-- page
pub record IsBacked (cached : ℕ → ℕ → Option ℕ) (info : Option PageInfo) (core : ℕ)
    (t : Translation) : Type 0 where
  pub entry : entry_of_page cached info ≡ Some t
  pub recorded : is_recorded info core ≡ true
  pub right : AllowsSome info

-- the oldest message has had its first take, and has the page
abbrev pub IsCleared : List Message → ℕ → Type 0
IsCleared [] p = ⊥
IsCleared (m ∷ ms) p = (m.is_cleared ≡ true) × (has m.range p ≡ true)

-- A TLB's translation is the tables' entry, or else that entry was cleared and the core's next take
-- invalidates the page.
abbrev pub Mirrors : (ℕ → Option Translation) → List Message → TlbEntry → Type 0
Mirrors table inbox e = (table e.page ≡ Some e.translation) ⊎ IsCleared inbox e.page

-- a TLB's entry on core d
abbrev pub IsSoundEntry : (ℕ → ℕ → Option ℕ) → (ℕ → Option PageInfo) → ℕ → (ℕ → Option Translation)
    → List Message → TlbEntry → Type 0
IsSoundEntry cached info d table inbox e =
    IsBacked cached (info e.page) d e.translation × Mirrors table inbox e

-- ---- messages

-- each message is from another core, whose call awaits just its range, and no core has two
abbrev pub AreAsked : (ℕ → Phase) → ℕ → List Message → Type 0
AreAsked phase d [] = Unit {0}
AreAsked phase d (m ∷ ms) =
    (m.from ≢ d) × (awaits_in (phase m.from) ≡ Some m.range) × (message_of ms m.from ≡ None)
    × AreAsked phase d ms

-- tables have no entry of a page of the range
abbrev pub IsTableClear : (ℕ → Option Translation) → PageRange → Type 0
IsTableClear table range = (p : ℕ) → has range p ≡ true → table p ≡ None

-- a TLB has no entry of a page of the range
abbrev pub IsTlbClear : List TlbEntry → PageRange → Type 0
IsTlbClear tlb range = Every (λ (e : TlbEntry). has range e.page ≡ false) tlb

-- What a core has left of a range, where the message that asks it to drop it is this: nothing, once
-- it is gone; no entry of its tables, after its first take. Of one that it hasn't looked at nothing
-- is said.
abbrev pub HasDropped : (ℕ → Option Translation) → List TlbEntry → PageRange → Option Message → Type 0
HasDropped table tlb range None = IsTableClear table range × IsTlbClear tlb range
HasDropped table tlb range (Some m) = m.is_cleared ≡ true → IsTableClear table range

-- ---- the whole

-- over which frames cache files' pages, what pages have and what calls are at
pub record IsCoherent (cached : ℕ → ℕ → Option ℕ) (info : ℕ → Option PageInfo) (phase : ℕ → Phase)
    (h : Hardware) : Type 0 where
  pub tables : (d p : ℕ) (t : Translation) → h.table d p ≡ Some t → IsBacked cached (info p) d t
  pub tlbs : (d : ℕ) → Every (IsSoundEntry cached info d (h.table d) (h.inbox d)) (h.tlb d)
  pub asked : (d : ℕ) → AreAsked phase d (h.inbox d)
  pub dropped : (c d : ℕ) (range : PageRange) → awaits_in (phase c) ≡ Some range
      → HasDropped (h.table d) (h.tlb d) range (message_of (h.inbox d) c)

-- of a state
abbrev pub IsCoherentState : World → Type 0
IsCoherentState w = IsCoherent w.memory.cached w.slots.info w.calls.phase w.hardware

-- no page has a frame that a call has taken
abbrev pub AreTakenNew : (ℕ → Option PageInfo) → (ℕ → Phase) → Type 0
AreTakenNew info phase = (c f p : ℕ) → taken_in (phase c) ≡ Some f → frame_of (info p) ≢ Some f

abbrev pub AllStepsKeepTranslations : Type 0
AllStepsKeepTranslations =
    (w v : World) (e : Event) (o : Outcome) → IsOrderly w → AreTakenNew w.slots.info w.calls.phase
    → IsCoherentState w → Step w e o v → IsCoherentState v

abbrev pub AllOpeningsAreCoherent : Type 0
AllOpeningsAreCoherent = (made : Made) (slots : Slots) → IsCoherentState (new_world made slots)
