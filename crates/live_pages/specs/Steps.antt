-- What a step of an access notes, and what it does to the slots that its call holds
use Rattle.std.specs.Prelude.{◌≡◌, ℕ, ◌+◌, map}
use Rattle.machine_model.specs.declared.event.Event.TheVariants.{Frame as FrameOf}
use Rattle.machine_model.specs.declared.event.Outcome.TheVariants.{Stepped}
use Rattle.live_levels.specs.declared.act.Act.{Act}
use Rattle.live_levels.specs.Replay.{dated}
use Rattle.live_levels.specs.Slots.{changed}
use Rattle.live_tree.specs.Held.{HeldView}
use Rattle.seats.specs.Growing.{Steps}
use Rattle.seats.specs.Notes.{SeatView, noted, with_note}
use Rattle.slot_lock.specs.declared.plan.Touch.{Touch}
use Rattle.vm_base.specs.Apply.{byte_reply}
use Rattle.vm_base.specs.declared.replies.Reply.{Reply}
use Rattle.live_pages.specs.Ending.{Answers}
use Rattle.live_pages.specs.declared.frame.FrameSearch.{FrameSearch}
use Rattle.live_pages.specs.declared.frame.FrameSearch.TheVariants as WantedOf
use Rattle.live_pages.specs.declared.frame.FrameSearch.TheVariants.{Taken, NoFrame}
use Rattle.live_pages.specs.declared.touching.Tried.{Tried}
use Rattle.live_pages.specs.declared.touching.Tried.TheVariants.{Served, Fault, Lost}

-- a plain step was noted
abbrev pub StepsOnce : SeatView → SeatView → Type 0
StepsOnce s t = (ticket : ℕ) × Steps s ticket t

-- a plain step was noted, and under its ticket each held slot got the change
pub record StepsWith (act : Act) (s : SeatView) (h : HeldView) (t : SeatView) (k : HeldView) : Type 0 where
  pub ticket : ℕ
  pub step : Steps s ticket t
  pub slots : k ≡ record h { slots = map (λ x. changed x (dated ticket act)) h.slots }

-- nothing was noted, and the held slots stay
abbrev pub Stays : SeatView → HeldView → SeatView → HeldView → Type 0
Stays s h t k = (t ≡ s) × (k ≡ h)

-- a plain step was noted, and right after it the answer of the core's call
pub record StepsAndAnswers (s : SeatView) (reply : Reply) (t : SeatView) : Type 0 where
  pub between : SeatView
  pub steps : StepsOnce s between
  pub answers : Answers between reply t

-- The byte was read or written, which is answered, or there was a fault: either is a plain step
abbrev pub Tries : Touch → SeatView → SeatView → Tried → Type 0
Tries touch s t (Served reply) = StepsAndAnswers s reply t × ((byte : ℕ) × (reply ≡ byte_reply touch.access byte))
Tries touch s t Fault = StepsOnce s t
Tries touch s t Lost = t ≡ s

-- it was noted that the frame is taken, from behind which the core looks for the next one
abbrev pub Takes : SeatView → ℕ → SeatView → Type 0
Takes s frame t = (ticket : ℕ)
    × (t ≡ record (with_note s (noted ticket (FrameOf s.core frame) Stepped)) { next_frame = frame + 1 })

-- a frame was taken, or a plain step says that none is free
abbrev pub Wants : SeatView → SeatView → FrameSearch → Type 0
Wants s t (Taken frame) = Takes s frame t
Wants s t NoFrame = StepsOnce s t
Wants s t WantedOf.Lost = t ≡ s
