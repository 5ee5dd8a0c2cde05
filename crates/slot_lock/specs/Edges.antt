-- How many slots there are
use Rattle.std.specs.Prelude.{ℕ, zero, suc, ◌+◌, if◌then◌else◌}
use Rattle.slot_lock.specs.Slots.{Slots}

-- how many slots begin below a page
unfoldable pub edges_below : Slots → ℕ → ℕ
edges_below s zero = 0
edges_below s (suc n) = (if s.edge n then 1 else 0) + edges_below s n
