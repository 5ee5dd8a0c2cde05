-- What the steps of a core's call tell whoever keeps real page tables and the bytes of frames by the machine
use Rattle.std.specs.Prelude.{◌≡◌, ℕ, zero, suc, ◌^◌, ◌⊎◌, ◌&&◌, ◌||◌, ◌==◌, if◌then◌else◌, Option, None, Some, is_some, Result, Ok, Err, Bool, true}
use Rattle.vm_base.specs.declared.memory.NoMemory.{NoMemory as MemoryFault}
use Rattle.vm_base.specs.declared.page.PageRange.{PageRange}
use Rattle.vm_base.specs.declared.requests.Request.{Request}
use Rattle.vm_base.specs.Info.{frame_of}
use Rattle.machine_model.specs.declared.event.Event.TheVariants.{Call, Go}
use Rattle.machine_model.specs.declared.event.Outcome.{Outcome}
use Rattle.machine_model.specs.declared.event.Outcome.TheVariants.{Stepped}
use Rattle.machine_model.specs.declared.phase.Phase.{Phase}
use Rattle.machine_model.specs.declared.phase.Phase.TheVariants.{Fill, CopyPost, CopyAcks}
use Rattle.slot_lock.specs.declared.plan.Touch.{Touch}
use Rattle.machine_model.specs.Files.{back_of}
use Rattle.machine_model.specs.Step.{Step}
use Rattle.machine_model.specs.World.{World}
use Rattle.core_steps.specs.Moving.{MayWant}
use Rattle.real_mmu.specs.Fills.{Source, zeroes, file_page, copy_of, source_of, Fills, Due, due_in}
use Rattle.real_mmu.specs.Remembered.{own_range}
use Rattle.driven.specs.declared.telling.Origin.{Origin}
use Rattle.driven.specs.declared.telling.Origin.TheVariants as From
use Rattle.driven.specs.declared.telling.FrameFill.{FrameFill}
use Rattle.driven.specs.declared.telling.Told.{Told}

-- ---- one step

abbrev pub origin_of : Source → Origin
origin_of zeroes = From.Zero
origin_of (file_page n k) = From.File n k
origin_of (copy_of g) = From.Frame g

-- the step gave this page this frame, whose bytes come from there; or it gave no page a frame
abbrev pub TellsFill : World → World → Option FrameFill → Type 0
TellsFill w v None = (p f : ℕ) → Fills w v p f → ⊥
TellsFill w v (Some x) =
    Fills w v x.page x.frame × (x.from ≡ origin_of (source_of w.memory.cached (back_of (w.slots.info x.page))))

-- the access of a call whose next step may drop its page, or give it a frame
abbrev pub touch_in : Phase → Option Touch
touch_in (Fill touch frame) = Some touch
touch_in (CopyPost touch frame) = Some touch
touch_in (CopyAcks touch frame) = Some touch
touch_in _ = None

-- how the code finds it: the frame that is due, with where its bytes come from, and after the step whether the page has it

abbrev pub fill_of : World → ℕ → ℕ → FrameFill
fill_of w p f =
    record { page = p; frame = f; from = origin_of (source_of w.memory.cached (back_of (w.slots.info p))) }

abbrev pub fill_due : World → Option Due → Option FrameFill
fill_due w None = None
fill_due w (Some d) = Some (fill_of w d.page d.frame)

abbrev pub fill_if : Option ℕ → FrameFill → Option FrameFill
fill_if None x = None
fill_if (Some f) x = if f == x.frame then Some x else None

abbrev pub fill_made : World → Option FrameFill → Option FrameFill
fill_made v None = None
fill_made v (Some x) = fill_if (frame_of (v.slots.info x.page)) x

-- a step of the core's call, the pages of which the core drops its translations by it, and the frame that it gives a page
pub record StepTells (w : World) (core : ℕ) (told : Told) (o : Outcome) (v : World) : Type 0 where
  pub step : Step w (Go core) o v
  pub own : told.own ≡ own_range (w.calls.phase core)
  pub fill : ∥ TellsFill w v told.fill ∥₁

-- ---- many steps

abbrev pub nothing_told : Told
nothing_told = record { own = None; fill = None }

-- of what was told before and what is told now there is one at the most, and it is in all that is told
abbrev pub IsOne : {A : Type 0} → Option A → Option A → Option A → Type 0
IsOne before None all = all ≡ before
IsOne None (Some x) all = all ≡ Some x
IsOne (Some y) (Some x) all = ⊥

abbrev pub told_by : Option PageRange → Option FrameFill → Told
told_by own fill = record { own = own; fill = fill }

abbrev pub latest : {A : Type 0} → Option A → Option A → Option A
latest before None = before
latest before (Some x) = Some x

-- all of both, where one of them has nothing to tell
abbrev pub joined : Told → Told → Told
joined before now = record { own = latest before.own now.own; fill = latest before.fill now.fill }

pub record Joins (before now all : Told) : Type 0 where
  pub own : IsOne before.own now.own all.own
  pub fill : IsOne before.fill now.fill all.fill

-- It was made, and what it tells joins what was told before. A frame is told only where one was due. Or memory was refused to it, and
-- nothing changed.
abbrev pub TriesTelling : Bool → World → ℕ → Told → Result Outcome MemoryFault → Told → World → Type 0
TriesTelling keeps w core before (Ok o) all v =
    (now : Told) × StepTells w core now o v × (all ≡ joined before now)
    × (is_some now.fill ≡ true → is_some (due_in (w.calls.phase core)) ≡ true)
TriesTelling keeps w core before (Err refused) all v = (v ≡ w) × MayWant keeps w (Go core) × (all ≡ before)

-- n plain steps of the core's call, and all that they tell
abbrev pub StepsTell : World → ℕ → ℕ → Told → World → Type 0
StepsTell w core zero all v = (v ≡ w) × (all ≡ nothing_told)
StepsTell w core (suc n) all v =
    (m : World) × (before : Told) × (now : Told) × StepsTell w core n before m × StepTells m core now Stepped v × Joins before now all

-- the next step would have a second range or a second frame to tell
abbrev pub is_second : Told → Phase → Bool
is_second told phase =
    (is_some told.own && is_some (own_range phase)) || (is_some told.fill && is_some (due_in phase))

-- so many steps at the most
abbrev pub step_limit : ℕ
step_limit = 2 ^ 40

-- After n steps there is one that isn't plain, the last. Or it stops before a step that would have a second thing to tell, or at the
-- limit, and the outcome is that of a plain step.
abbrev pub LastTells : World → ℕ → ℕ → Told → Told → Outcome → World → Type 0
LastTells m core n before all Stepped v =
    (v ≡ m) × (all ≡ before) × ((n ≡ step_limit) ⊎ (is_second before (m.calls.phase core) ≡ true))
LastTells m core n before all o v = (now : Told) × StepTells m core now o v × Joins before now all

-- the call goes on until a step isn't plain; or memory is refused to a step, before which its steps stay made and told
abbrev pub GoesTelling : Bool → World → ℕ → Told → Result Outcome MemoryFault → World → Type 0
GoesTelling keeps w core all (Ok o) v =
    (n : ℕ) × (m : World) × (before : Told) × StepsTell w core n before m × LastTells m core n before all o v
GoesTelling keeps w core all (Err refused) v = (n : ℕ) × StepsTell w core n all v × MayWant keeps v (Go core)

-- a call that began goes on; one that didn't has told why, and nothing else
abbrev pub GoesAfter : Bool → World → ℕ → Outcome → Told → Result Outcome MemoryFault → World → Type 0
GoesAfter keeps m core Stepped all ended v = GoesTelling keeps m core all ended v
GoesAfter keeps m core o all ended v = (v ≡ m) × (all ≡ nothing_told) × (ended ≡ Ok o)

-- a call begins and goes on
abbrev pub CallsTelling : Bool → World → ℕ → Request → Told → Result Outcome MemoryFault → World → Type 0
CallsTelling keeps w core request all ended v =
    (o : Outcome) × (m : World) × Step w (Call core request) o m × GoesAfter keeps m core o all ended v
