-- What becomes of a frame that a call took
use Rattle.std.specs.Prelude.{◌≡◌, ◌⊎◌, ℕ, Option, None, Some}
use Rattle.slot_lock.specs.declared.plan.Touch.{Touch}
use Rattle.machine_model.specs.Files.{back_of}
use Rattle.live_levels.specs.declared.act.Act.TheVariants.{Frame, Copy}
use Rattle.live_tree.specs.Held.{HeldView}
use Rattle.live_tree.specs.Shown.{shown}
use Rattle.live_pages.specs.Frames.{MayGet}
use Rattle.live_space.specs.declared.ending.Ending.{Ending}
use Rattle.live_space.specs.declared.ending.Ending.TheVariants.{Answer, GiveUp, GiveBack}
use Rattle.live_space.specs.Faulting.{Gets}

-- the held page got a frame, which may be it: the one that the call took, but where the page shows its file page
abbrev pub UsesFrame : Option ℕ → Touch → HeldView → Type 0
UsesFrame own touch h = (frame : ℕ)
    × MayGet own (back_of ((shown h.slots).info touch.page)) touch.access frame × ((k : HeldView) × Gets (Frame frame) h k)

-- it got its copy in the frame
abbrev pub UsesCopy : ℕ → HeldView → Type 0
UsesCopy own h = (k : HeldView) × Gets (Copy own) h k

abbrev pub UsesNew : Option ℕ → ℕ → Touch → HeldView → Type 0
UsesNew None own touch h = UsesFrame (Some own) touch h
UsesNew (Some shown) own touch h = UsesCopy own h

-- A frame that the call took, if it took one, was used so, or is given back by the call's ending. A call is given up without
-- it only if there is none, or it was used.
abbrev pub Spends : Option ℕ → Type 0 → Option Ending → Type 0
Spends own Used None = Used
Spends own Used (Some (Answer reply)) = Used
Spends own Used (Some GiveUp) = (own ≡ None) ⊎ Used
Spends own Used (Some (GiveBack frame)) = own ≡ Some frame

-- a call that is given up gives this frame back, if there is one
abbrev pub GivesOnly : Option ℕ → Ending → Type 0
GivesOnly None ending = ending ≡ GiveUp
GivesOnly (Some frame) ending = ending ≡ GiveBack frame
