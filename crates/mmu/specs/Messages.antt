-- The messages of an inbox, the oldest first
use Rattle.std.specs.Prelude.{ℕ, ◌≡◌, ◌≢◌, ◌<◌, ◌==◌, true, false, if◌then◌else◌, List, [], ◌∷◌, Option}
use Rattle.std.specs.Prelude.{None, Some}
use Rattle.vm_base.specs.declared.page.PageRange.{PageRange}
use Rattle.mmu.specs.declared.message.Message.{Message}
use Rattle.mmu.specs.declared.message.Took.{Took}
use Rattle.mmu.specs.declared.message.Took.TheVariants.{Clear, Invalidate, Idle}

-- A core's inbox
pub record InboxOf : Type 0 where
  pub core : ℕ
  pub messages : List Message

-- the core's message, if it has one there
abbrev pub message_of : List Message → ℕ → Option Message
message_of [] core = None
message_of (m ∷ ms) core = if m.from == core then Some m else message_of ms core

-- a message as it is sent
abbrev pub posted : ℕ → PageRange → Message
posted from range = record { from = from; range = range; is_cleared = false }

abbrev pub oldest_of : List Message → Option Message
oldest_of [] = None
oldest_of (m ∷ ms) = Some m

-- What the oldest message asks for: the tables are cleared before the TLB is invalidated.
abbrev pub asked : List Message → Took
asked [] = Idle
asked (m ∷ ms) = if m.is_cleared then Invalidate m.range else Clear m.range

-- The messages after the oldest was acted on: it is marked as cleared, or else gone.
abbrev pub remaining : List Message → List Message
remaining [] = []
remaining (m ∷ ms) = if m.is_cleared then ms else record m { is_cleared = true } ∷ ms

-- the core that the next take acknowledges
abbrev pub waiter : List Message → Option ℕ
waiter [] = None
waiter (m ∷ ms) = if m.is_cleared then Some m.from else None

-- each message is another core's, and no core has two
abbrev pub AreFromOthers : ℕ → List Message → Type 0
AreFromOthers core [] = Unit {0}
AreFromOthers core (m ∷ ms) =
    (m.from < 64) × (m.from ≢ core) × (message_of ms m.from ≡ None) × AreFromOthers core ms
