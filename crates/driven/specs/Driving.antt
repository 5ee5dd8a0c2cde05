-- What C asks of a machine that decides what real page tables may translate, and what it is told
use Rattle.std.specs.Prelude.{◌≡◌, ◌≢◌, ℕ, ◌<◌, ◌==◌, nat_lt, if◌then◌else◌, Bool, Option, None, Some, Result, Ok, Err}
use Rattle.std.specs.Option.{unwrap_or}
use Rattle.vm_base.specs.declared.memory.NoMemory.{NoMemory as MemoryFault}
use Rattle.vm_base.specs.declared.page.PageRange.{PageRange}
use Rattle.vm_base.specs.declared.requests.Request.{Request}
use Rattle.vm_base.specs.declared.requests.Request.TheVariants as Asks
use Rattle.vm_base.specs.Info.{frame_of}
use Rattle.vm_base.specs.Pages.{is_page, page_of}
use Rattle.mmu.specs.declared.message.Took.{Took}
use Rattle.mmu.specs.declared.message.Took.TheVariants as TookOf
use Rattle.mmu.specs.Tables.{word_of}
use Rattle.slot_lock.specs.declared.plan.Plan.{Plan}
use Rattle.slot_lock.specs.declared.plan.Plan.TheVariants as PlanOf
use Rattle.machine_model.specs.declared.event.Event.TheVariants.{Evict}
use Rattle.machine_model.specs.declared.event.Outcome.{Outcome}
use Rattle.machine_model.specs.declared.phase.Phase.TheVariants.{Free}
use Rattle.machine_model.specs.Holding.{awaits_in, plan_in}
use Rattle.machine_model.specs.Step.{Step}
use Rattle.machine_model.specs.World.{World}
use Rattle.core_steps.specs.Telling.{TakesTold}
use Rattle.coded.specs.declared.codes.RawEvent.{RawEvent}
use Rattle.coded.specs.declared.codes.RawOutcome.{RawOutcome}
use Rattle.driven.specs.declared.telling.Origin.{Origin}
use Rattle.driven.specs.declared.telling.Origin.TheVariants as From
use Rattle.driven.specs.declared.telling.FrameFill.{FrameFill}
use Rattle.driven.specs.declared.telling.Told.{Told}
use Rattle.driven.specs.declared.driving.DriveStop.{DriveStop}
use Rattle.driven.specs.declared.driving.DriveStop.TheVariants as Why
use Rattle.driven.specs.declared.driving.RawFilled.{RawFilled}
use Rattle.driven.specs.declared.driving.RawDrop.{RawDrop}
use Rattle.coded.specs.Asked.{asked_of}
use Rattle.coded.specs.Codes.{core_of, outcome_code}
use Rattle.coded.specs.Holding.{HeldState, GoesOn, empty_code}
use Rattle.driven.specs.Telling.{GoesTelling, CallsTelling}

-- ---- what C writes

-- a core of the machine
abbrev pub core_in : World → ℕ → Option ℕ
core_in w core = if nat_lt core w.made.cores then core_of core else None

-- the access of a fault: a load, a store of 0, or a fetch, by its code as an event
abbrev pub touch_request : ℕ → ℕ → Option Request
touch_request kind at =
    if kind == 4 then Some (Asks.Load at)
    else if kind == 5 then Some (Asks.Store at 0)
    else if kind == 6 then Some (Asks.Fetch at) else None

-- an mmap, a munmap or an mprotect
abbrev pub change_request : RawEvent → Option Request
change_request r = if nat_lt r.kind 4 then asked_of r else None

-- ---- what C reads

abbrev pub no_filled : RawFilled
no_filled = record { word = 0; page = 0; frame = 0; fill = 0; from = 0; file = 0 }

-- with the code of where a new frame's bytes come from: 1 where they are 0, 2 with a frame, 3 with a page of a file
abbrev pub with_origin : RawFilled → Origin → RawFilled
with_origin r From.Zero = record r { fill = 1 }
with_origin r (From.Frame g) = record r { fill = 2; from = g }
with_origin r (From.File n k) = record r { fill = 3; from = k; file = n }

abbrev pub with_fill : RawFilled → Option FrameFill → RawFilled
with_fill r None = r
with_fill r (Some x) = with_origin (record r { frame = x.frame }) x.from

-- the page that got a frame, or else the page of the access
abbrev pub page_told : Option ℕ → Option FrameFill → Option ℕ
page_told p None = p
page_told p (Some x) = Some x.page

-- the core's entry of the page, and the page's frame
abbrev pub shown_at : World → ℕ → ℕ → RawFilled
shown_at w core p = record {
  word = unwrap_or (word_of (w.hardware.table core p)) 0;
  page = p;
  frame = unwrap_or (frame_of (w.slots.info p)) 0;
  fill = 0;
  from = 0;
  file = 0;
}

abbrev pub filled_at : World → ℕ → Option ℕ → Option FrameFill → RawFilled
filled_at w core None fill = no_filled
filled_at w core (Some p) fill = if is_page p then with_fill (shown_at w core p) fill else no_filled

-- what a touch comes to
abbrev pub filled_of : World → ℕ → Option ℕ → Option FrameFill → RawFilled
filled_of w core p fill = filled_at w core (page_told p fill) fill

abbrev pub no_drop : RawDrop
no_drop = record { first = 0; end = 0; what = 0; from = 0 }

-- pages to drop: 1 from tables, 2 from the TLB, 3 because of the core's own call
abbrev pub drop_code : PageRange → ℕ → ℕ → RawDrop
drop_code range what from = record { first = range.first; end = range.end; what = what; from = from }

abbrev pub own_code : ℕ → Option PageRange → RawDrop
own_code core None = no_drop
own_code core (Some range) = drop_code range 3 core

abbrev pub drive_code : Result Unit DriveStop → ℕ
drive_code (Ok _) = 0
drive_code (Err Why.BadEvent) = 1
drive_code (Err Why.NoMemory) = 2
drive_code (Err Why.Absent) = 9
drive_code (Err Why.InFlight) = 18
drive_code (Err Why.Limit) = 20

-- ---- a call

-- the core is the machine's and has no call, and this is what is asked for
pub record IsReady (w : World) (core : ℕ) (asked : Option Request) (c : ℕ) (request : Request) : Type 0 where
  pub here : core_in w core ≡ Some c
  pub wants : asked ≡ Some request
  pub free : w.calls.phase c ≡ Free

-- why nothing is done
abbrev pub IsStopped : World → ℕ → Option Request → DriveStop → Type 0
IsStopped w core asked Why.Absent = core_in w core ≡ None
IsStopped w core asked Why.BadEvent = asked ≡ None
IsStopped w core asked Why.InFlight = (c : ℕ) × (core_in w core ≡ Some c) × (w.calls.phase c ≢ Free)
IsStopped w core asked _ = ⊥

-- The core's call is made, which tells something, and its outcome is told. Want of memory is told by the status, and what the call told
-- until then stays told. Or nothing is done and told.
abbrev pub Drives : {T : Type 0} → World → ℕ → Option Request → (ℕ → Request → Result Outcome MemoryFault → T → World → Type 0)
    → RawOutcome → T → Result Unit DriveStop → RawOutcome → T → World → Type 0
Drives w core asked Makes was given (Ok _) now told v =
    (c : ℕ) × (request : Request) × (o : Outcome) × IsReady w core asked c request × Makes c request (Ok o) told v × (now ≡ outcome_code o)
Drives w core asked Makes was given (Err Why.NoMemory) now told v =
    (c : ℕ) × (request : Request) × (e : MemoryFault) × IsReady w core asked c request × Makes c request (Err e) told v × (now ≡ was)
Drives w core asked Makes was given (Err stop) now told v =
    IsStopped w core asked stop × (v ≡ w) × (now ≡ was) × (told ≡ given)

-- a page fault drops the page from the core's TLB (Intel SDM volume 3A, operations that invalidate TLBs), and its access is made
abbrev pub Touches : Bool → World → ℕ → ℕ → Request → Result Outcome MemoryFault → RawFilled → World → Type 0
Touches keeps w at c request ended filled v =
    (x : Outcome) × (m : World) × (told : Told) × Step w (Evict c (page_of at)) x m
    × CallsTelling keeps m c request told ended v
    × (filled ≡ filled_of v c (Some (page_of at)) told.fill)

abbrev pub TouchesOn : Bool → World → ℕ → ℕ → ℕ → RawOutcome → RawFilled → Result Unit DriveStop → RawOutcome → RawFilled → World → Type 0
TouchesOn keeps w core at kind = Drives w core (touch_request kind at) (Touches keeps w at)

-- a change, and the pages that its own core drops
abbrev pub Changes : Bool → World → ℕ → Request → Result Outcome MemoryFault → RawDrop → World → Type 0
Changes keeps w c request ended own v =
    (told : Told) × CallsTelling keeps w c request told ended v × (own ≡ own_code c told.own)

abbrev pub ChangesOn : Bool → World → RawEvent → RawOutcome → RawDrop → Result Unit DriveStop → RawOutcome → RawDrop → World → Type 0
ChangesOn keeps w raw = Drives w raw.core (change_request raw) (Changes keeps w)

-- ---- a call that goes on

abbrev pub page_touched : Option Plan → Option ℕ
page_touched (Some (PlanOf.Touch touch)) = Some touch.page
page_touched _ = None

-- what both tell: what a touch comes to, and the pages that the call's own core drops
pub record Both : Type 0 where
  pub filled : RawFilled
  pub own : RawDrop

abbrev pub both : RawFilled → RawDrop → Both
both filled own = record { filled = filled; own = own }

abbrev pub Resumes : Bool → World → ℕ → Result Outcome MemoryFault → Both → World → Type 0
Resumes keeps w c ended all v =
    (told : Told) × GoesTelling keeps w c told ended v
    × (all.filled ≡ filled_of v c (page_touched (plan_in (w.calls.phase c))) told.fill)
    × (all.own ≡ own_code c told.own)

abbrev pub ResumesOn : Bool → World → ℕ → RawOutcome → Both → Result Unit DriveStop → RawOutcome → Both → World → Type 0
ResumesOn keeps w core was given (Ok _) now told v =
    (c : ℕ) × (o : Outcome) × (core_in w core ≡ Some c) × Resumes keeps w c (Ok o) told v × (now ≡ outcome_code o)
ResumesOn keeps w core was given (Err Why.NoMemory) now told v =
    (c : ℕ) × (e : MemoryFault) × (core_in w core ≡ Some c) × Resumes keeps w c (Err e) told v × (now ≡ was)
ResumesOn keeps w core was given (Err Why.Absent) now told v =
    (core_in w core ≡ None) × (v ≡ w) × (now ≡ was) × (told ≡ given)
ResumesOn keeps w core was given (Err _) now told v = ⊥

-- ---- a take

-- the call of this core awaits that the pages are dropped
abbrev pub IsSender : World → PageRange → ℕ → Type 0
IsSender w range d = awaits_in (w.calls.phase d) ≡ Some range

-- some core of the machine's does
abbrev pub HasSender : World → PageRange → Type 0
HasSender w range = (d : ℕ) × (d < w.made.cores) × IsSender w range d

-- and so it is for what a message asked for
abbrev pub IsSent : World → Took → Type 0
IsSent w TookOf.Idle = Unit {0}
IsSent w (TookOf.Clear range) = ∥ HasSender w range ∥₁
IsSent w (TookOf.Invalidate range) = ∥ HasSender w range ∥₁

-- what the message asked for, and whose it is
abbrev pub TellsDrop : World → Took → RawDrop → Type 0
TellsDrop v TookOf.Idle drop = drop ≡ no_drop
TellsDrop v (TookOf.Clear range) drop = (d : ℕ) × IsSender v range d × (drop ≡ drop_code range 1 d)
TellsDrop v (TookOf.Invalidate range) drop = (d : ℕ) × IsSender v range d × (drop ≡ drop_code range 2 d)

abbrev pub TakesDrop : World → ℕ → RawDrop → Result Unit DriveStop → RawDrop → World → Type 0
TakesDrop w core given (Ok _) told v =
    (c : ℕ) × (took : Took) × (core_in w core ≡ Some c) × TakesTold w c took v × TellsDrop v took told
TakesDrop w core given (Err Why.Absent) told v = (core_in w core ≡ None) × (v ≡ w) × (told ≡ given)
TakesDrop w core given (Err _) told v = ⊥

-- ---- on a handle

-- an empty handle is told, and nothing changes; else the machine that it has does so
abbrev pub TellsDriven : {T : Type 0} → (HeldState → RawOutcome → T → Result Unit DriveStop → RawOutcome → T → World → Type 0)
    → Option HeldState → RawOutcome → T → ℕ → RawOutcome → T → Option HeldState → Type 0
TellsDriven Does None was given status now told k = (status ≡ empty_code) × (now ≡ was) × (told ≡ given) × (k ≡ None)
TellsDriven Does (Some h) was given status now told k = (r : Result Unit DriveStop) × (next : HeldState)
    × (status ≡ drive_code r) × (k ≡ Some next) × GoesOn h (Does h was given r now told) next

abbrev pub TellsTouch : Option HeldState → ℕ → ℕ → ℕ → RawOutcome → RawFilled → ℕ → RawOutcome → RawFilled → Option HeldState → Type 0
TellsTouch h core at kind = TellsDriven (λ h. TouchesOn h.keeps h.world core at kind) h

abbrev pub TellsChange : Option HeldState → RawEvent → RawOutcome → RawDrop → ℕ → RawOutcome → RawDrop → Option HeldState → Type 0
TellsChange h raw = TellsDriven (λ h. ChangesOn h.keeps h.world raw) h

abbrev pub TellsGoOn : Option HeldState → ℕ → RawOutcome → Both → ℕ → RawOutcome → Both → Option HeldState → Type 0
TellsGoOn h core = TellsDriven (λ h. ResumesOn h.keeps h.world core) h

abbrev pub TellsTake : Option HeldState → ℕ → RawDrop → ℕ → RawDrop → Option HeldState → Type 0
TellsTake None core given status told k = (status ≡ empty_code) × (told ≡ given) × (k ≡ None)
TellsTake (Some h) core given status told k = (r : Result Unit DriveStop) × (next : HeldState)
    × (status ≡ drive_code r) × (k ≡ Some next) × GoesOn h (TakesDrop h.world core given r told) next
