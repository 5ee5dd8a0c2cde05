-- What a call did that is to be answered, and holds its slots still
use Rattle.std.specs.Prelude.{◌≡◌, ◌⊎◌, ℕ, List, ◌++◌, Option, Result, Ok, Err}
use Rattle.vm_base.specs.Plain.{File}
use Rattle.vm_base.specs.declared.replies.Reply.{Reply}
use Rattle.vm_base.specs.declared.replies.Reply.TheVariants.{NoMemory}
use Rattle.slot_lock.specs.declared.plan.Plan.{Plan}
use Rattle.slot_lock.specs.declared.plan.Plan.TheVariants as PlanOf
use Rattle.live_tree.specs.Held.{HeldView}
use Rattle.seats.specs.Notes.{SeatView}
use Rattle.seats.specs.declared.noted.Noted.{Noted}
use Rattle.live_space.specs.declared.ending.Ran.{Ran}
use Rattle.live_space.specs.declared.ending.Ran.TheVariants.{Answered, Open}
use Rattle.live_space.specs.Changing.{ChangesJust}
use Rattle.live_space.specs.Placing.{PlacesSomewhere}
use Rattle.live_space.specs.Planned.{EndsIn}

-- the reply was decided of just the pages of the change, or of those of one of the mapping's targets, and done there
abbrev pub Does : (ℕ → Option File) → Plan → SeatView → HeldView → Reply → Type 0
Does files (PlanOf.Change change) t k reply = ChangesJust files change t k reply
Does files (PlanOf.Place place) t k reply = PlacesSomewhere place t k reply
Does files (PlanOf.Touch touch) t k reply = Unit {0}

-- the plan is an access
abbrev pub IsTouch : Plan → Type 0
IsTouch (PlanOf.Change change) = ⊥
IsTouch (PlanOf.Place place) = ⊥
IsTouch (PlanOf.Touch touch) = Unit {0}

-- if the call is to be answered, it did what its reply says; an access may have been answered
abbrev pub Did : (ℕ → Option File) → Plan → Ran → SeatView → HeldView → Type 0
Did files plan (Answered reply) t k = IsTouch plan
Did files plan (Open ending) t k = EndsIn (Does files plan t k) ending

-- it did so when its seat had noted so much, and it held its slots still
pub record Done (files : ℕ → Option File) (plan : Plan) (t : SeatView) (reply : Reply) : Type 0 where
  pub seat : SeatView
  pub held : HeldView
  pub later : List Noted
  pub notes : t.notes ≡ seat.notes ++ later
  pub does : Does files plan seat held reply

-- a call whose arguments passed was given up, or did what its reply says
abbrev pub DoneIf : (ℕ → Option File) → Result Plan Reply → SeatView → Reply → Type 0
DoneIf files (Ok plan) t reply = (reply ≡ NoMemory) ⊎ Done files plan t reply
DoneIf files (Err decided) t reply = Unit {0}
