-- What frames count: the pages that have them
use Rattle.std.specs.Prelude.{◌≡◌, ℕ, zero, suc, ◌+◌, ◌^◌, ◌==◌, Bool, true, false, if◌then◌else◌}
use Rattle.std.specs.Prelude.{Option, None, Some, pos}
use Rattle.vm_base.specs.declared.info.PageInfo.{PageInfo}
use Rattle.vm_base.specs.Info.{frame_of}
use Rattle.refcache.specs.Counts.{true_count}
use Rattle.refcache.specs.Steps.{IsUnused}
use Rattle.slot_lock.specs.Slots.{Slots, IsNew}
use Rattle.machine_model.specs.declared.event.Event.{Event}
use Rattle.machine_model.specs.declared.event.Outcome.{Outcome}
use Rattle.machine_model.specs.declared.phase.Phase.{Phase}
use Rattle.machine_model.specs.Holding.{taken_in}
use Rattle.machine_model.specs.World.{World, Made, Memory, new_world}
use Rattle.machine_model.specs.Step.{Step}
use Rattle.machine_model.specs.Orderly.{IsOrderly}

-- just this frame
abbrev pub is_frame : Option ℕ → ℕ → Bool
is_frame None f = false
is_frame (Some g) f = g == f

-- how many of the pages below n have the frame
unfoldable pub pages_with : (ℕ → Option PageInfo) → ℕ → ℕ → ℕ
pages_with info f zero = 0
pages_with info f (suc n) = (if is_frame (frame_of (info n)) f then 1 else 0) + pages_with info f n

-- how many pages have it; all are below this number
abbrev pub users_of : (ℕ → Option PageInfo) → ℕ → ℕ
users_of info f = pages_with info f (2 ^ 35)

-- a page of a file, by its number and the file's
pub record FilePage : Type 0 where
  pub file : ℕ
  pub page : ℕ

-- one, if there is one
abbrev pub one_if : Option FilePage → ℕ
one_if None = 0
one_if (Some x) = 1

-- Each frame's true count is the number of pages that have it, and one more where it caches a page
-- of a file; no frame caches two. Nothing is left in the counts of a frame that is free or that a
-- call has taken; a taken frame isn't free, and no two calls have taken one frame.
pub record IsCounted (info : ℕ → Option PageInfo) (phase : ℕ → Phase) (m : Memory) : Type 0 where
  -- the file page that a frame caches
  pub page_in : ℕ → Option FilePage
  pub caches : (n k f : ℕ) → m.cached n k ≡ Some f → page_in f ≡ Some (record { file = n; page = k })
  pub cached : (f : ℕ) (x : FilePage) → page_in f ≡ Some x → m.cached x.file x.page ≡ Some f
  pub users : (f : ℕ) → true_count m.counts f ≡ pos (users_of info f + one_if (page_in f))
  pub free : (f : ℕ) → m.is_free f ≡ true → IsUnused m.counts f
  pub taken : (c f : ℕ) → taken_in (phase c) ≡ Some f → IsUnused m.counts f
  pub busy : (c f : ℕ) → taken_in (phase c) ≡ Some f → m.is_free f ≡ false
  pub alone : (c d f : ℕ) → taken_in (phase c) ≡ Some f → taken_in (phase d) ≡ Some f → c ≡ d

-- of a state
abbrev pub IsCountedState : World → Type 0
IsCountedState w = IsCounted w.slots.info w.calls.phase w.memory

abbrev pub AllStepsKeepCounts : Type 0
AllStepsKeepCounts =
    (w v : World) (e : Event) (o : Outcome) → IsOrderly w → IsCountedState w → Step w e o v
    → IsCountedState v

abbrev pub AllOpeningsAreCounted : Type 0
AllOpeningsAreCounted =
    (made : Made) (slots : Slots) → IsNew slots → IsCountedState (new_world made slots)
