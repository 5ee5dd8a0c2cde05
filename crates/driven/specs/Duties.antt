-- A caller that keeps real page tables by a machine that it holds: the calls that it makes, in the order of its lock, what is done between
-- them, and what it must do. The numbers are those of its duties in include/radixvm.h.
use Rattle.std.specs.Prelude.{◌≡◌, ℕ, ◌≤◌, ◌<◌, ◌^◌, ◌==◌, ◌||◌, if◌then◌else◌, true, Bool, List, [], ◌∷◌, ◌++◌, Option, None, Some}
use Rattle.vm_base.specs.declared.page.PageRange.{PageRange}
use Rattle.vm_base.specs.Functions.{has, put}
use Rattle.vm_base.specs.Pages.{page_of, pages_from}
use Rattle.vm_base.specs.Plain.{Bytes, File, zeros, nothing_mapped}
use Rattle.mmu.specs.declared.entry.Translation.{Translation}
use Rattle.mmu.specs.Entry.{entry_word}
use Rattle.slot_lock.specs.Slots.{Slots}
use Rattle.machine_model.specs.declared.event.Event.{Event}
use Rattle.machine_model.specs.declared.event.Event.TheVariants.{Flush, Review, Fold}
use Rattle.machine_model.specs.World.{Made, new_world}
use Rattle.coded.specs.declared.codes.RawEvent.{RawEvent}
use Rattle.coded.specs.declared.codes.RawOutcome.{RawOutcome}
use Rattle.coded.specs.declared.opening.RawSetup.{RawSetup}
use Rattle.coded.specs.declared.opening.RawFile.{RawFile}
use Rattle.coded.specs.Codes.{event_of}
use Rattle.coded.specs.Holding.{HeldState, OpensHeld, TellsStep}
use Rattle.real_mmu.specs.Fills.{first_page}
use Rattle.real_mmu.specs.Driven.{Driven, Act, library, installs, Does, IsFlushed, Stage, Drives as Runs, Shown, opening, with_range}
use Rattle.driven.specs.declared.driving.RawFilled.{RawFilled}
use Rattle.driven.specs.declared.driving.RawDrop.{RawDrop}
use Rattle.driven.specs.Driving.{no_filled, both, TellsTouch, TellsChange, TellsGoOn, TellsTake}
use Rattle.driven.specs.Reclaiming.{TellsReclaim}

-- ---- calls

pub data Ask : Type 0 where
  touches : (core at kind : ℕ) → Ask
  changes : RawEvent → Ask
  goes_on : (core : ℕ) → Ask
  takes : (core : ℕ) → Ask
  steps : RawEvent → Ask
  reclaims : Ask

-- the caller's variables, which its calls write
pub record Vars : Type 0 where
  pub outcome : RawOutcome
  pub filled : RawFilled
  pub drop : RawDrop
  pub frames : ℕ

-- duty 10: what radixvm_step is asked for beside the calls
abbrev pub IsAside : Option Event → Type 0
IsAside None = Unit {0}
IsAside (Some (Flush c)) = Unit {0}
IsAside (Some (Review c)) = Unit {0}
IsAside (Some (Fold p)) = Unit {0}
IsAside (Some _) = ⊥

-- what the contract of the library's function says of a call that returned this status
abbrev pub Returns : HeldState → Ask → Vars → ℕ → Vars → HeldState → Type 0
Returns h (touches core at kind) was status now k =
    TellsTouch (Some h) core at kind was.outcome was.filled status now.outcome now.filled (Some k)
Returns h (changes raw) was status now k = TellsChange (Some h) raw was.outcome was.drop status now.outcome now.drop (Some k)
Returns h (goes_on core) was status now k =
    TellsGoOn (Some h) core was.outcome (both was.filled was.drop) status now.outcome (both now.filled now.drop) (Some k)
Returns h (takes core) was status now k = TellsTake (Some h) core was.drop status now.drop (Some k)
Returns h (steps raw) was status now k =
    IsAside (event_of raw) × TellsStep (Some h) raw was.outcome status now.outcome (Some k)
Returns h reclaims was status now k = TellsReclaim (Some h) was.frames status now.frames (Some k)

pub record Call : Type 0 where
  pub ask : Ask
  pub was : Vars
  pub status : ℕ
  pub now : Vars
  -- the entry that the caller makes present in the same locked section, if it makes one
  pub installed : Option Translation

-- ---- what a call tells

-- done, or memory was refused to a step and those before it stay made
abbrev pub is_made : ℕ → Bool
is_made status = status == 0 || status == 2

-- with the page that was touched
abbrev pub filled_in : Ask → ℕ → Vars → RawFilled
filled_in (touches core at kind) status now = if is_made status then now.filled else no_filled
filled_in (goes_on core) status now = if is_made status then now.filled else no_filled
filled_in _ status now = no_filled

-- the pages of RADIXVM_DROP_OWN
abbrev pub own_in : RawDrop → Option PageRange
own_in drop = if drop.what == 3 then Some (record { first = drop.first; end = drop.end }) else None

-- the pages whose translations the call's own core is to drop: after a touch the page
abbrev pub owed_in : Ask → ℕ → Vars → Option PageRange
owed_in (touches core at kind) status now = if is_made status then Some (pages_from (page_of at) 1) else None
owed_in (changes raw) status now = if is_made status then own_in now.drop else None
owed_in (goes_on core) status now = if is_made status then own_in now.drop else None
owed_in _ status now = None

abbrev pub core_in_ask : Ask → ℕ
core_in_ask (touches core at kind) = core
core_in_ask (changes raw) = raw.core
core_in_ask (goes_on core) = core
core_in_ask (takes core) = core
core_in_ask (steps raw) = raw.core
core_in_ask reclaims = 0

-- ---- duties at a call

-- duty 4: the bytes that are to be in the new frame, where those of all frames are these
abbrev pub bytes_told : (ℕ → Option File) → (ℕ → Bytes) → RawFilled → Bytes
bytes_told files bytes filled =
    if filled.fill == 1 then zeros
    else if filled.fill == 2 then bytes filled.from else first_page (files filled.file) filled.from

-- with the fill that is told
abbrev pub with_fill_made : (ℕ → Option File) → (ℕ → Bytes) → RawFilled → ℕ → Bytes
with_fill_made files bytes filled = if filled.fill == 0 then bytes else put bytes filled.frame (bytes_told files bytes filled)

-- duty 2: an entry is made present as `word` tells it; frame numbers have 32 bits
abbrev pub IsTold : RawFilled → Option Translation → Type 0
IsTold filled None = Unit {0}
IsTold filled (Some x) = (filled.word ≡ entry_word x) × (x.frame < 2 ^ 32)

abbrev pub with_word : ℕ → ℕ → Option Translation → (ℕ → ℕ → Option Translation) → ℕ → ℕ → Option Translation
with_word core p None words = words
with_word core p (Some x) words = put words core (put (words core) p (Some x))

-- duty 2: at the take that acknowledges a message, the core has no word and no TLB entry of its pages
abbrev pub IsClearFor : Driven → ℕ → ℕ → RawDrop → Type 0
IsClearFor w core status drop = status ≡ 0 → drop.what ≡ 2
    → (p : ℕ) → has (record { first = drop.first; end = drop.end }) p ≡ true → IsFlushed w core p

-- duty 1: the lock was taken by a locked instruction, which emptied the core's store buffer
abbrev pub IsReadyFor : Driven → Ask → ℕ → Vars → Type 0
IsReadyFor w (touches core at kind) status now = w.waiting core ≡ []
IsReadyFor w (changes raw) status now = w.waiting raw.core ≡ []
IsReadyFor w (goes_on core) status now = w.waiting core ≡ []
IsReadyFor w (takes core) status now = (w.waiting core ≡ []) × IsClearFor w core status now.drop
IsReadyFor w (steps raw) status now = Unit {0}
IsReadyFor w reclaims status now = Unit {0}

-- ---- what happens

-- a call, with what its locked section does; or what handler, processor and program do between calls
pub data Deed : Type 0 where
  calls : Call → Deed
  acts : Act → Deed

-- the library's steps and new words come with calls alone
abbrev pub IsBetween : Act → Type 0
IsBetween (library e o) = ⊥
IsBetween (installs c p) = ⊥
IsBetween _ = Unit {0}

-- the machine of w, which keeps its log or not
abbrev pub held_in : Bool → Driven → HeldState
held_in keeps w = record { world = w.inside; keeps = keeps }

-- Duty 3 stands in what the program does: it makes no access to what its core owes, and the core is done with that once it has
-- neither words nor TLB entries of it.
abbrev pub DeedLeads : Bool → Driven → Deed → Driven → Type 0
DeedLeads keeps w (calls k) v =
    let filled = filled_in k.ask k.status k.now in
    let core = core_in_ask k.ask in
    Returns (held_in keeps w) k.ask k.was k.status k.now (held_in keeps v)
    × IsReadyFor w k.ask k.status k.now
    × IsTold filled k.installed
    × (v ≡ record w {
      inside = v.inside;
      bytes = with_fill_made w.inside.made.file w.bytes filled;
      words = with_word core filled.page k.installed w.words;
      owed = put w.owed core (with_range (owed_in k.ask k.status k.now) (w.owed core));
    })
DeedLeads keeps w (acts a) v = IsBetween a × Does w a v

pub record Moment : Type 0 where
  pub what : Deed
  pub after : Driven

abbrev pub Handles : Bool → Driven → List Moment → Type 0
Handles keeps w [] = Unit {0}
Handles keeps w (m ∷ ms) = DeedLeads keeps w m.what m.after × Handles keeps m.after ms

-- ---- the law

-- what is done beside the library's steps
abbrev pub installed_by : ℕ → ℕ → Option Translation → List Act
installed_by core p None = []
installed_by core p (Some x) = installs core p ∷ []

abbrev pub done_by : Deed → List Act
done_by (calls k) = installed_by (core_in_ask k.ask) (filled_in k.ask k.status k.now).page k.installed
done_by (acts a) = a ∷ []

abbrev pub done_in : List Moment → List Act
done_in [] = []
done_in (m ∷ ms) = done_by m.what ++ done_in ms

abbrev pub unless_step : Act → List Act
unless_step (library e o) = []
unless_step a = a ∷ []

abbrev pub beside_steps : List Stage → List Act
beside_steps [] = []
beside_steps (m ∷ ms) = unless_step m.what ++ beside_steps ms

abbrev pub end_of : Driven → List Stage → Driven
end_of w [] = w
end_of w (m ∷ ms) = end_of m.after ms

abbrev pub handled : Driven → List Moment → Driven
handled w [] = w
handled w (m ∷ ms) = handled m.after ms

-- they differ at most in what is owed: what a core owes by its calls' steps, it owes by what they tell
abbrev pub IsAsIn : Driven → Driven → Type 0
IsAsIn u w = w ≡ record u { owed = w.owed }

-- a driven run of a machine with this, over these slots, that does what the caller's moments do
pub record IsRunOf (made : Made) (slots : Slots) (w : Driven) (ms : List Moment) : Type 0 where
  pub run : List Stage
  pub runs : Runs (opening made slots w.bytes) run
  pub done : beside_steps run ≡ done_in ms
  pub ends : IsAsIn (handled w ms) (end_of (opening made slots w.bytes) run)
  pub shown : Shown (opening made slots w.bytes) (nothing_mapped made.file) run

-- a machine that radixvm_new made of a setup with at most 65,536 frames, before any core translates, whatever bytes its frames have
abbrev pub IsOpened : RawSetup → List RawFile → List ℕ → Bool → Driven → Type 0
IsOpened setup files buffer keeps w =
    (setup.frames ≤ 65536) × OpensHeld setup files buffer (held_in keeps w)
    × (w ≡ record w { words = λ c p. None; tlb = λ c. []; owed = λ c. []; waiting = λ c. [] })

-- Whatever a caller that does its duties asks for, and whatever its cores and their programs do between its calls: all calls that
-- returned together are a run of the law of hardware, so that each access has the reply of a plain page map.
abbrev pub AllCallsAreDriven : Type 0
AllCallsAreDriven =
    (setup : RawSetup) (files : List RawFile) (buffer : List ℕ) (keeps : Bool) (w : Driven) (ms : List Moment)
    → IsOpened setup files buffer keeps w → Handles keeps w ms
    → (made : Made) × (slots : Slots) × (w.inside ≡ new_world made slots) × IsRunOf made slots w ms
