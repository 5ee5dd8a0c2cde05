-- What an acquisition holds
use Rattle.std.specs.Prelude.{◌≡◌, ℕ, ◌<◌, true, Some}
use Rattle.slot_lock.specs.declared.footprint.Footprint.{Footprint}
use Rattle.slot_lock.specs.Footprint.{covers}
use Rattle.slot_lock.specs.Slots.{Slots}

-- the core holds every page of the footprint below the cursor
pub record HoldsUpTo (s : Slots) (core : ℕ) (fp : Footprint) (cursor : ℕ) : Type 0 where
  pub held : (p : ℕ) → covers fp p ≡ true → p < cursor → s.owner p ≡ Some core
