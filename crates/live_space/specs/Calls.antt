-- When a call of a thread doesn't begin
use Rattle.std.specs.Prelude.{◌≡◌, ℕ, ◌+◌, ◌<◌, ◌≤◌, ◌^◌, length}
use Rattle.seats.specs.Notes.{SeatView}
use Rattle.seats.specs.Growing.{IsSame}
use Rattle.live_space.specs.declared.fault.LiveFault.{LiveFault}
use Rattle.live_space.specs.declared.fault.LiveFault.TheVariants.{Calls, Notes, NoMemory}

-- why a seat can't make so many notes more: they would pass its limit, or else it hasn't the room, and there is no memory for it
abbrev pub LacksRoom : ℕ → SeatView → LiveFault → Type 0
LacksRoom n s Calls = ⊥
LacksRoom n s Notes = 2 ^ 32 < length s.notes + n
LacksRoom n s NoMemory = (length s.notes + n ≤ 2 ^ 32) × (s.room < n)

-- the seat has begun fewer calls than its share, and three notes, which a call takes at least, stay
-- within its limit
pub record MayBegin (share : ℕ) (s : SeatView) : Type 0 where
  pub calls : s.begun < share
  pub notes : length s.notes + 3 ≤ 2 ^ 32

-- why a seat can't begin a call: its share is used up, or else it lacks room for three notes
abbrev pub LacksCall : ℕ → SeatView → LiveFault → Type 0
LacksCall share s Calls = share ≤ s.begun
LacksCall share s Notes = (s.begun < share) × LacksRoom 3 s Notes
LacksCall share s NoMemory = (s.begun < share) × LacksRoom 3 s NoMemory

-- nothing was noted, and no call was begun
pub record IsIdle (s t : SeatView) : Type 0 where
  pub same : IsSame s t
  pub notes : t.notes ≡ s.notes
  pub begun : t.begun ≡ s.begun
