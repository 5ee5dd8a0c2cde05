-- What bringing frames back comes to
use Rattle.std.specs.Prelude.{◌≡◌, ◌≢◌, ℕ, ◌+◌, ◌-◌, ◌^◌, ◌<◌, ◌≤◌, ◌⊎◌, true, List, [], ◌∷◌, length, Option, None, Some, Result, Ok, Err}
use Rattle.vm_base.specs.Info.{frame_of}
use Rattle.frames.specs.Bits.{count_below}
use Rattle.machine_model.specs.declared.event.Event.{Event}
use Rattle.machine_model.specs.declared.event.Event.TheVariants.{Flush, Review}
use Rattle.machine_model.specs.declared.event.Outcome.{Outcome}
use Rattle.machine_model.specs.Holding.{taken_in}
use Rattle.machine_model.specs.Step.{Run}
use Rattle.machine_model.specs.World.{World}
use Rattle.coded.specs.Holding.{HeldState, GoesOn, empty_code}
use Rattle.driven.specs.declared.driving.DriveStop.{DriveStop}
use Rattle.driven.specs.declared.driving.DriveStop.TheVariants as Why
use Rattle.driven.specs.Driving.{drive_code}

-- ---- flushes and reviews

-- cores flush counts and review frames, and nothing else happens
abbrev pub AreCountings : List Event → Type 0
AreCountings [] = Unit {0}
AreCountings (Flush c ∷ es) = AreCountings es
AreCountings (Review c ∷ es) = AreCountings es
AreCountings (_ ∷ es) = ⊥

-- these led from w to v
pub record CountingsLead (w : World) (es : List Event) (v : World) : Type 0 where
  pub all : AreCountings es
  pub outcomes : List Outcome
  pub run : Run w es outcomes v

-- some did
abbrev pub CountsSome : World → World → Type 0
CountsSome w v = (es : List Event) × CountingsLead w es v × (1 ≤ length es)

-- ---- frames that nothing uses

-- some call has taken the frame
abbrev pub IsTaken : World → ℕ → Type 0
IsTaken w f = (c : ℕ) × (taken_in (w.calls.phase c) ≡ Some f)

-- no page has the frame, it caches no page of a file, and no call has taken it
pub record IsNobodys (w : World) (f : ℕ) : Type 0 where
  pub pages : (p : ℕ) → frame_of (w.slots.info p) ≢ Some f
  pub files : (n k : ℕ) → w.memory.cached n k ≢ Some f
  pub calls : IsTaken w f → ⊥

-- it is free then
abbrev pub IsBack : World → ℕ → Type 0
IsBack w f = IsNobodys w f → w.memory.is_free f ≡ true

-- each frame of the machine that nothing uses is free
abbrev pub AllAreBack : World → Type 0
AllAreBack w = (f : ℕ) → f < w.made.frames → IsBack w f

-- ---- what it comes to

-- eight epochs ended, or 2^40 events were taken
abbrev pub IsSpent : World → List Event → World → Type 0
IsSpent w es v = (w.memory.counts.epoch + 8 ≤ v.memory.counts.epoch) ⊎ (2 ^ 40 ≤ length es)

-- each frame that nothing uses is free, or they were waited for in vain
abbrev pub BringsBack : World → Result Unit DriveStop → World → Type 0
BringsBack w (Ok _) v = (es : List Event) × CountingsLead w es v × AllAreBack v
BringsBack w (Err Why.Limit) v = (es : List Event) × CountingsLead w es v × IsSpent w es v
BringsBack w (Err _) v = ⊥

-- how many frames are free
abbrev pub free_in : World → ℕ
free_in w = count_below w.memory.is_free w.made.frames

-- and how many more it is now is told
abbrev pub Reclaims : World → Result Unit DriveStop → ℕ → World → Type 0
Reclaims w r told v = BringsBack w r v × (told ≡ free_in v - free_in w)

-- what C reads of it
abbrev pub TellsReclaim : Option HeldState → ℕ → ℕ → ℕ → Option HeldState → Type 0
TellsReclaim None was status told k = (status ≡ empty_code) × (told ≡ was) × (k ≡ None)
TellsReclaim (Some h) was status told k = (r : Result Unit DriveStop) × (next : HeldState)
    × (status ≡ drive_code r) × (k ≡ Some next) × GoesOn h (Reclaims h.world r told) next
