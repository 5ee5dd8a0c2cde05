-- What making a change needs
use Rattle.std.specs.Prelude.{ℕ, ◌<◌, pos, ◌<ℤ◌}
use Rattle.slot_lock.specs.Slots.{Slots}
use Rattle.refcache.specs.Counts.{Counts, true_count}
use Rattle.machine_model.specs.World.{World}
use Rattle.machine_model.specs.Invariant.{IsWellFormed}

-- some page has the frame, as far as the counts say
pub record IsCounted (counts : Counts) (frame : ℕ) : Type 0 where
  pub object : frame < counts.objects
  pub used : pos 0 <ℤ true_count counts frame

-- a state that runs reach, of which the rest is this, has these slots and these counts
pub record AreCounted (s : Slots) (v : Counts) : Type 0 where
  pub rest : World
  pub well : ∥ IsWellFormed (record rest { slots = s; memory = record rest.memory { counts = v } }) ∥₁
