-- The inboxes of all cores as a function, and who waits for whom
use Rattle.std.specs.Prelude.{ℕ, ◌≡◌, ◌<◌, ◌==◌, Bool, false, Option, None, Some, if◌then◌else◌, List}
use Rattle.std.specs.Prelude.{[], ◌∷◌, ◌++◌, length, slice_index_or, is_some}
use Rattle.vm_base.specs.declared.page.PageRange.{PageRange}
use Rattle.vm_base.specs.Functions.{put}
use Rattle.vm_base.specs.Cores.{members}
use Rattle.mmu.specs.declared.message.Message.{Message}
use Rattle.mmu.specs.Messages.{InboxOf, message_of, posted}

abbrev pub nobody : InboxOf
nobody = record { core = 0; messages = [] }

-- the messages of each core; a core that isn't there has none
abbrev pub inbox : List InboxOf → ℕ → List Message
inbox boxes d = (slice_index_or boxes d nobody).messages

-- the core of each inbox
abbrev pub owner : List InboxOf → ℕ → ℕ
owner boxes d = (slice_index_or boxes d nobody).core

-- The cores of the set have a message more, at the end.
abbrev pub sent : ℕ → ℕ → PageRange → (ℕ → List Message) → ℕ → List Message
sent from to range inbox d = if members to d then inbox d ++ posted from range ∷ [] else inbox d

-- the cores that still have this core's message
abbrev pub awaited : (ℕ → List Message) → ℕ → ℕ → Bool
awaited inbox from d = is_some (message_of (inbox d) from)

-- the set of core c without this core, if c is the waiter
abbrev pub acknowledged : (ℕ → Bool) → Option ℕ → ℕ → ℕ → ℕ → Bool
acknowledged set None core c = set
acknowledged set (Some waiter) core c = if waiter == c then put set core false else set

-- Each inbox stands at its core's number, and the set of each core has those that it waits for.
pub record AreIndexed (boxes : List InboxOf) (waits : List ℕ) : Type 0 where
  pub own : (d : ℕ) → d < length boxes → owner boxes d ≡ d
  pub kept : (c : ℕ) → c < 64 → members (slice_index_or waits c 0) ≡ awaited (inbox boxes) c
