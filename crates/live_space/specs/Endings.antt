-- How the steps of a call end
use Rattle.std.specs.Borrow.{MutBor}
use Rattle.std.specs.Prelude.{◌≡◌, []}
use Rattle.vm_base.specs.declared.replies.Reply.{Reply}
use Rattle.vm_base.specs.declared.replies.Reply.TheVariants.{NoMemory}
use Rattle.live_tree.specs.Held.{HeldView}
use Rattle.seats.specs.Notes.{SeatView}
use Rattle.live_pages.specs.Ending.{Ends}
use Rattle.live_space.specs.declared.ending.Ending.{Ending}
use Rattle.live_space.specs.declared.ending.Ending.TheVariants.{Answer, GiveUp, GiveBack}
use Rattle.live_space.specs.declared.ending.Ran.{Ran}
use Rattle.live_space.specs.declared.ending.Ran.TheVariants.{Answered, Open}
use Rattle.live_space.specs.InFlight.{GoesOn}

-- the reply of a call that ends so
abbrev pub reply_of : Ending → Reply
reply_of (Answer reply) = reply
reply_of GiveUp = NoMemory
reply_of (GiveBack own) = NoMemory

-- in the same seat the call was answered, or its notes grew by steps between and it is to end
abbrev pub RunsTo : MutBor SeatView → Ran → MutBor SeatView → Type 0
RunsTo s (Answered reply) t = (t.ghost_name ≡ s.ghost_name) × Ends s.now reply t.now
RunsTo s (Open ending) t = GoesOn s t

-- a call that was answered under the locks of its last step holds no slot
abbrev pub HoldsNone : Ran → HeldView → Type 0
HoldsNone (Answered reply) h = h.slots ≡ []
HoldsNone (Open ending) h = Unit {0}
