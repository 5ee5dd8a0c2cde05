-- An attempt to lock a slot
use Rattle.std.specs.Prelude.{◌≡◌, ℕ, ◌<◌, ◌≤◌, None, Some}
use Rattle.radix_node.specs.declared.lock.Lock.{Lock}
use Rattle.radix_node.specs.declared.lock.Lock.TheVariants.{Held, Before, Beyond, Locked}
use Rattle.radix_node.specs.State.{State}
use Rattle.radix_node.specs.Run.{Cell}

-- what an attempt to lock the slot of a page, with room for so many pages, comes to
abbrev pub Meets : Cell → ℕ → Lock → Type 0
Meets c room (Held owner) = c.state.owner ≡ Some owner
Meets c room Before = (c.state.owner ≡ None) × (0 < c.offset)
Meets c room Beyond = (c.state.owner ≡ None) × (c.offset ≡ 0) × (room < c.width)
Meets c room (Locked width) =
    (c.state.owner ≡ None) × (c.offset ≡ 0) × (c.width ≤ room) × (width ≡ c.width)

-- the slot after such an attempt
abbrev pub after_lock : Lock → ℕ → State → State
after_lock (Held owner) core s = s
after_lock Before core s = s
after_lock Beyond core s = s
after_lock (Locked width) core s = record { info = s.info; owner = Some core }
