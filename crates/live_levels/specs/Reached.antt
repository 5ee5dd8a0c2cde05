-- What a thread finds in a slot's place
use Rattle.std.specs.Prelude.{◌≡◌, false}
use Rattle.std.specs.Sync.Mutex.{mutex_guard_value}
use Rattle.live_levels.specs.declared.place.Reached.{Reached}
use Rattle.live_levels.specs.declared.place.Reached.TheVariants.{Below, Slot, Lost}

-- a slot that is found locked isn't divided
abbrev pub IsWhole : {C A : Type 0} → Reached C A → Type 0
IsWhole (Below level) = Unit {0}
IsWhole (Slot guard) = (mutex_guard_value guard).divided ≡ false
IsWhole Lost = Unit {0}
