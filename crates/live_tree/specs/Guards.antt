-- The slots that guards hold
use Rattle.std.specs.Prelude.{false, [], Option, Some, None}
use Rattle.std.specs.Sync.Mutex.{mutex_guard_value}
use Rattle.std.specs.declared.sync.MutexGuard.{MutexGuard}
use Rattle.live_levels.specs.Slots.{SlotView}

abbrev pub no_slot : SlotView
no_slot = record { first = 0; count = 0; owner = None; content = None; changes = []; room = 0; divided = false }

-- the slot of a guard that is there
abbrev pub slot_of : Option (MutexGuard SlotView) → SlotView
slot_of None = no_slot
slot_of (Some guard) = mutex_guard_value guard

-- the slot of a guard, where there is one
abbrev pub noted_slot : Option (MutexGuard SlotView) → Option SlotView
noted_slot None = None
noted_slot (Some guard) = Some (mutex_guard_value guard)
