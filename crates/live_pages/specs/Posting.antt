-- Cores that are locked to be told, and what telling them does
use Rattle.std.specs.Prelude.{◌≡◌, ℕ, ◌<◌, true, false, List, [], ◌∷◌, ◌++◌, Option, None, Some, is_some, map}
use Rattle.std.specs.Prelude.{◌⊎◌, All, IfSome, IsSome}
use Rattle.std.specs.List.{Contains}
use Rattle.std.specs.Sync.Mutex.{mutex_guard_value}
use Rattle.vm_base.specs.Cores.{members}
use Rattle.vm_base.specs.Pages.{are_pages}
use Rattle.vm_base.specs.declared.page.PageRange.{PageRange}
use Rattle.mmu.specs.declared.cpu.Cpu.{Cpu}
use Rattle.mmu.specs.declared.entry.Translation.{Translation}
use Rattle.mmu.specs.declared.tlb.TlbEntry.{TlbEntry}
use Rattle.refcache.specs.Pieces.{Core}
use Rattle.mmu.specs.declared.message.Message.{Message}
use Rattle.mmu.specs.Messages.{InboxOf, message_of, oldest_of}
use Rattle.machine_model.specs.Translating.{after_shot}
use Rattle.live_pages.specs.OneCore.{OneCore, one_core, after_on}
use Rattle.live_pages.specs.declared.pieces.CoreState.{CoreState}
use Rattle.live_pages.specs.declared.telling.LockedCore.{LockedCore}

-- the core that tells the others, the cores that are locked, and the range of pages whose
-- translations they are to drop
pub record TellingView : Type 0 where
  pub core : ℕ
  pub set : ℕ
  pub range : PageRange

-- a locked core: its number, and its inbox
pub record LockedInbox : Type 0 where
  pub number : ℕ
  pub inbox : InboxOf

abbrev pub inbox_of : {A : Type 0} → Option (LockedCore A) → LockedInbox
inbox_of None = record { number = 64; inbox = record { core = 64; messages = [] } }
inbox_of (Some p) = record { number = p.number; inbox = (mutex_guard_value p.state).inbox }

abbrev pub number_of : {A : Type 0} → Option (LockedCore A) → ℕ
number_of p = (inbox_of p).number

-- core c can tell the other one, which stands under its own number: it has no message of c
pub record CanBeTold (c : ℕ) (k : LockedInbox) : Type 0 where
  pub own : k.inbox.core ≡ k.number
  pub free : is_some (message_of k.inbox.messages c) ≡ false

-- a core with these messages has acknowledged core c's, so that c has none there; or its oldest message is of no pages, and
-- it can't act on it
abbrev pub IsTold : ℕ → List Message → Type 0
IsTold c ms = (is_some (message_of ms c) ≡ false) ⊎ IfSome (oldest_of ms) (λ m. are_pages m.range ≡ false)

-- one core more is locked, of this number, which core c can tell
pub record LocksCore {A : Type 0} (c number : ℕ) (old new : List (Option (LockedCore A))) : Type 0 where
  pub place : LockedCore A
  pub is : place.number ≡ number
  pub ready : CanBeTold c (inbox_of (Some place))
  pub now : new ≡ old ++ Some place ∷ []

-- of the cores below the bound just those of the set are locked, and core c can tell each
pub record AreLocked {A : Type 0} (c set bound : ℕ) (places : List (Option (LockedCore A))) : Type 0 where
  pub some : All IsSome places
  pub each : (d : ℕ) → d < bound → members set d ≡ true → Contains (map number_of places) d
  pub others : All (λ p. members set (number_of p) ≡ true) places
  pub ready : All (λ p. CanBeTold c (inbox_of p)) places

-- a locked core: its number, its counts, and what the machine's core has
pub record LentCore : Type 0 where
  pub number : ℕ
  pub counts : Core
  pub has : OneCore

-- each core of the set has what the machine's core has after core c's post to the set
abbrev pub told : ℕ → ℕ → PageRange → LentCore → LentCore
told c set range k = record k { has = after_on k.number (λ h. after_shot h c set range) k.has }

module _ {A : Type 0} (table : Cpu A → ℕ → Option Translation) (tlb : Cpu A → List TlbEntry) where
  abbrev pub core_with : ℕ → CoreState A → LentCore
  core_with number s = record { number = number; counts = s.counts; has = one_core (table s.cpu) (tlb s.cpu) s.inbox }

  abbrev pub core_of : Option (LockedCore A) → LentCore
  core_of None = record {
    number = 64;
    counts = record { places = []; queue = []; room = 0 };
    has = record { table = λ p. None; tlb = []; inbox = [] };
  }
  core_of (Some p) = core_with p.number (mutex_guard_value p.state)
