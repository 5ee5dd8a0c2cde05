-- What a call has that holds slots, and what its steps make of its seat
use Rattle.std.specs.Borrow.{MutBor}
use Rattle.std.specs.Prelude.{◌≡◌, ℕ, ◌+◌, ◌≤◌, length}
use Rattle.vm_base.specs.declared.page.PageRange.{PageRange}
use Rattle.live_tree.specs.Held.{HeldView}
use Rattle.seats.specs.Growing.{Grew}
use Rattle.seats.specs.Notes.{SeatView}

-- there is room for so many steps more, and then to let the slots go, to give the call up, and to
-- answer it
abbrev pub HasStepsLeft : ℕ → HeldView → SeatView → Type 0
HasStepsLeft steps h s = length h.slots + 2 + steps ≤ s.room

-- the same seat, whose notes grew by some that neither begin a call nor answer one
pub record GoesOn (s t : MutBor SeatView) : Type 0 where
  pub same_reference : t.ghost_name ≡ s.ghost_name
  pub grew : Grew s.now t.now

-- just the pages of the range are held
abbrev pub HoldsJust : PageRange → HeldView → Type 0
HoldsJust range h = (h.first ≡ range.first) × (h.end ≡ range.end)
