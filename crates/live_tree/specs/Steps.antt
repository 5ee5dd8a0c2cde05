-- What a step towards holding pages comes to
use Rattle.std.specs.Prelude.{◌≡◌, ◌≢◌, ℕ, ◌≤◌}
use Rattle.live_levels.specs.Slots.{SlotView}
use Rattle.live_levels.specs.Nexts.{Noted, IsLockable}
use Rattle.live_tree.specs.Held.{HeldView, with_slot}
use Rattle.live_tree.specs.declared.held.HoldStep.{HoldStep}
use Rattle.live_tree.specs.declared.held.HoldStep.TheVariants.{Locked, Split, Unseen, Owned, NoMemory, Lost}

-- one slot more is held, which begins where the others end, and has room for so many changes
pub record LocksOne (core end room : ℕ) (h k : HeldView) : Type 0 where
  pub slot : SlotView
  pub whole : IsLockable core h.end end slot
  pub has_room : room ≤ slot.room
  pub now : k ≡ with_slot h slot

-- a step was noted exactly where a slot was locked, or divided, whether or not threads reach its
-- parts; and the held slots stay but for one that was locked
module _ {S : Type 0} (stepped : S → ℕ → S → Type 0) (before now : S) (h k : HeldView) where
  abbrev pub Acquires : ℕ → ℕ → ℕ → HoldStep → Type 0
  Acquires core end room Locked = Noted stepped before now × LocksOne core end room h k
  Acquires core end room Split = Noted stepped before now × (k ≡ h)
  Acquires core end room Unseen = Noted stepped before now × (k ≡ h)
  Acquires core end room (Owned other) = (now ≡ before) × (k ≡ h) × (other ≢ core)
  Acquires core end room NoMemory = (now ≡ before) × (k ≡ h)
  Acquires core end room Lost = (now ≡ before) × (k ≡ h)
