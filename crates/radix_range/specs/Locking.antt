-- An attempt to lock the slot of a page, and slots that get another owner one after another
use Rattle.std.specs.Prelude.{◌≡◌, ℕ, ◌+◌, ◌<◌, ◌≤◌, false, None, Some}
use Rattle.vm_base.specs.Runs.{NoneIn}
use Rattle.slot_lock.specs.declared.slot_map.SlotRun.{SlotRun}
use Rattle.slot_lock.specs.Slots.{Slots, IsSlot, Locks, with_owner}
use Rattle.slot_lock.specs.SlotRuns.{OneByOne}
use Rattle.radix_node.specs.declared.lock.Lock.{Lock}
use Rattle.radix_node.specs.declared.lock.Lock.TheVariants.{Held, Before, Beyond, Locked}
use Rattle.radix_node.specs.declared.own_run.Handover.{Handover}

-- the slot that begins at the cursor is free, and ends after the pages up to `end`
pub record GoesPast (s : Slots) (cursor end : ℕ) : Type 0 where
  pub last : ℕ
  pub slot : IsSlot s cursor last
  pub past : end < last
  pub free : NoneIn s.owner cursor last

-- what a core's attempt to lock the cursor's slot comes to, which has to begin there and to end by
-- `end`
abbrev pub TriesLock : Slots → Slots → ℕ → ℕ → ℕ → Lock → Type 0
TriesLock s t core cursor end (Held by) = (s.owner cursor ≡ Some by) × (t ≡ s)
TriesLock s t core cursor end Before = (s.owner cursor ≡ None) × (s.edge cursor ≡ false) × (t ≡ s)
TriesLock s t core cursor end Beyond = GoesPast s cursor end × (t ≡ s)
TriesLock s t core cursor end (Locked width) = Locks s t core cursor end (cursor + width)

-- the slot from the cursor up to b had the one owner, and has the other now
pub record HandsSlot (s t : Slots) (owners : Handover) (cursor end b : ℕ) : Type 0 where
  pub slot : IsSlot s cursor b
  pub by_end : b ≤ end
  pub had : (p : ℕ) → cursor ≤ p → p < b → s.owner p ≡ owners.from
  pub now : t ≡ with_owner s cursor b owners.to

-- so did these slots, one after another
abbrev pub HandsRun : Slots → Slots → Handover → ℕ → ℕ → SlotRun → Type 0
HandsRun s t owners cursor end run =
    OneByOne (λ x y a b. HandsSlot x y owners a end b) s t cursor run.slots run.upto
