-- What a try to lock, cut or fold tells
use Rattle.std.specs.Prelude.{◌≡◌, ◌≢◌, ◌⊎◌, ℕ, ◌+◌, ◌<◌, ◌≤◌, false, Option, Some, None}
use Rattle.std.specs.Sync.Mutex.{mutex_guard_value}
use Rattle.live_levels.specs.Parts.{DividesView}
use Rattle.live_levels.specs.Slots.{HasPage, SlotView}
use Rattle.live_levels.specs.declared.ask.AskedSlot.{AskedSlot}
use Rattle.live_levels.specs.declared.fold.JoinedSlots.{JoinedSlots}
use Rattle.live_levels.specs.declared.ask.AskedSlot.TheVariants as AskedOf
use Rattle.live_levels.specs.declared.level.Next.{Next}
use Rattle.live_levels.specs.declared.level.Next.TheVariants as NextOf
use Rattle.live_levels.specs.declared.level.SlotCut.{SlotCut}
use Rattle.live_levels.specs.declared.level.SlotCut.TheVariants.{Cut, Unseen, NoMemory, Lost}

-- no other core is to lock the slot first
abbrev pub IsFreeFor : ℕ → Option ℕ → Type 0
IsFreeFor core None = Unit {0}
IsFreeFor core (Some owner) = owner ≡ core

-- another core is to lock the slot first
abbrev pub IsForAnother : ℕ → Option ℕ → Type 0
IsForAnother core owner = ¬ IsFreeFor core owner

-- the slot begins at the cursor, ends by the end, isn't divided, and is no other core's
pub record IsLockable (core cursor end : ℕ) (s : SlotView) : Type 0 where
  pub begins : s.first ≡ cursor
  pub ends : cursor + s.count ≤ end
  pub free : IsFreeFor core s.owner
  pub whole : s.divided ≡ false

-- the slot has the cursor, and is another core's
pub record IsOthers (core cursor : ℕ) (s : SlotView) : Type 0 where
  pub has : HasPage s cursor
  pub other : IsForAnother core s.owner

-- the slot has the cursor, is no other core's, and begins before the cursor or ends after the end
pub record IsLarger (core cursor end : ℕ) (s : SlotView) : Type 0 where
  pub has : HasPage s cursor
  pub free : IsFreeFor core s.owner
  pub outside : (s.first < cursor) ⊎ (end < s.first + s.count)

module _ {A : Type 0} where
  -- what a core that asks from the cursor on finds in a slot
  abbrev pub Asks : ℕ → ℕ → ℕ → SlotView → AskedSlot A → Type 0
  Asks core cursor end s (AskedOf.Whole guard) =
      (mutex_guard_value guard ≡ s) × IsLockable core cursor end s
  Asks core cursor end s (AskedOf.Owned guard) =
      (mutex_guard_value guard ≡ s) × IsOthers core cursor s
  Asks core cursor end s (AskedOf.Larger guard) =
      (mutex_guard_value guard ≡ s) × IsLarger core cursor end s
  Asks core cursor end s AskedOf.Lost = ¬ HasPage s cursor

module _ {S : Type 0} (stepped : S → ℕ → S → Type 0) (before now : S) where
  -- a step was noted, under some ticket
  abbrev pub Noted : Type 0
  Noted = (ticket : ℕ) × stepped before ticket now

  -- a step was noted exactly where the slot was divided for the owner, under the ticket that is
  -- told, whether or not threads reach its parts
  abbrev pub Cuts : Option ℕ → SlotView → SlotCut → Type 0
  Cuts owner s (Cut d) = stepped before d.divided.ticket now × DividesView s owner d.divided
  Cuts owner s (Unseen d) = stepped before d.ticket now × DividesView s owner d
  Cuts owner s NoMemory = now ≡ before
  Cuts owner s Lost = now ≡ before

  -- a step was noted exactly where slots were joined, which have the page, under the ticket of the
  -- slot's history that stands for them
  abbrev pub Folds : ℕ → Option JoinedSlots → Type 0
  Folds page (Some j) = stepped before j.ticket now × ((j.range.first ≤ page) × (page < j.range.end))
  Folds page None = now ≡ before

module _ {A S : Type 0} (stepped : S → ℕ → S → Type 0) (before now : S) where
  -- a step was noted exactly where a slot was divided, whether or not threads reach its parts
  abbrev pub Answers : ℕ → ℕ → ℕ → Next A → Type 0
  Answers core cursor end (NextOf.Whole guard) =
      (now ≡ before) × IsLockable core cursor end (mutex_guard_value guard)
  Answers core cursor end NextOf.Split = Noted stepped before now
  Answers core cursor end NextOf.Unseen = Noted stepped before now
  Answers core cursor end (NextOf.Owned guard) =
      (now ≡ before) × IsOthers core cursor (mutex_guard_value guard)
  Answers core cursor end NextOf.NoMemory = now ≡ before
  Answers core cursor end NextOf.Lost = now ≡ before
