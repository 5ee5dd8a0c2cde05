-- How a mapping without MAP_FIXED finds its place: its hint's pages are locked, then those of one
-- run of its window that it guesses to be free, then its window, never two of them at once. It goes
-- to pages that are free while it holds them.
use Rattle.std.specs.Prelude.{◌≡◌, ℕ, Option, None, Some, cond}
use Rattle.vm_base.specs.declared.page.PageRange.{PageRange}
use Rattle.vm_base.specs.declared.replies.Reply.TheVariants.{Refused}
use Rattle.vm_base.specs.Pages.{pages_from}
use Rattle.vm_base.specs.Places.{IsLeastRoom}
use Rattle.vm_base.specs.Runs.{lies_in}
use Rattle.vm_base.specs.Plain.{is_mapped}
use Rattle.slot_lock.specs.declared.plan.Change.TheVariants.{Put}
use Rattle.slot_lock.specs.declared.plan.Goal.TheVariants as To
use Rattle.slot_lock.specs.declared.plan.Place.{Place}
use Rattle.slot_lock.specs.declared.plan.Target.{Target}
use Rattle.slot_lock.specs.declared.plan.Target.TheVariants.{Hint, Run, Window}
use Rattle.slot_lock.specs.declared.slot_map.Fit.{Fit}
use Rattle.slot_lock.specs.declared.slot_map.Fit.TheVariants as fit
use Rattle.slot_lock.specs.Plan.{target_range}
use Rattle.slot_lock.specs.Slots.{Slots, Unlocks, CutSteps}
use Rattle.vm_calls.specs.declared.decision.Decision.{Decision}
use Rattle.vm_calls.specs.declared.decision.Decision.TheVariants.{Refuse, Act, Again}
use Rattle.vm_calls.specs.Decisions.{Decides, entries}
use Rattle.machine_model.specs.declared.event.Outcome.{Outcome}
use Rattle.machine_model.specs.declared.phase.Phase.{Phase}
use Rattle.machine_model.specs.declared.phase.Phase.TheVariants.{Guess, Back, Cut, Acks}
use Rattle.machine_model.specs.World.{World}
use Rattle.machine_model.specs.Actions.{Idles, Becomes, to, after_reply}
use Rattle.machine_model.specs.Locks.{locking, held_after}

-- ---- targets

-- the pages of the target are to be locked, from the first on
abbrev pub trying : Place → Target → Phase
trying place target = locking (To.Place place target)

-- a mapping begins with its hint, if there is one
abbrev pub placing : Place → Option PageRange → Phase
placing place None = Guess place
placing place (Some range) = trying place (Hint range)

-- the call of core c locks the pages of the target
abbrev pub after_guess : ℕ → Place → Target → World → World
after_guess c place target w = to c (trying place target) w

-- ---- Guess

-- the run where there is room, or else the window
abbrev pub guess_of : Place → Option ℕ → Target
guess_of place None = Window
guess_of place (Some first) = Run (pages_from first place.count)

-- The least room of the window is guessed, as the slots are now: nobody holds it for the call yet.
abbrev pub GuessesNext : World → ℕ → Place → Outcome → World → Type 0
GuessesNext w c place o v =
    (found : Option ℕ) × IsLeastRoom (is_mapped (entries w.slots)) place.window place.count found
    × Becomes (after_guess c place (guess_of place found) w) o v

-- a call that looks for a place guesses the run from this page on, if it lies in its window
abbrev pub GuessesThisRun : World → ℕ → Phase → ℕ → Outcome → World → Type 0
GuessesThisRun w c (Guess place) first o v =
    cond (lies_in place.window place.count first)
    (Becomes (after_guess c place (Run (pages_from first place.count)) w) o v)
    (Idles w o v)
GuessesThisRun w c _ first o v = Idles w o v

-- a call that looks for a place takes its window
abbrev pub TakesWindow : World → ℕ → Phase → Outcome → World → Type 0
TakesWindow w c (Guess place) o v = Becomes (after_guess c place Window w) o v
TakesWindow w c _ o v = Idles w o v

-- ---- Find: all pages of the target are held

-- the place is found, or the range is let go and another is looked for
abbrev pub after_finding_place : ℕ → Place → Target → Decision → World → World
after_finding_place c place target (Refuse e) w =
    after_reply c (Some (target_range place target)) (Refused e) w
after_finding_place c place target (Act range shoot) w = to c (Cut place target range) w
after_finding_place c place target Again w = to c (Back place target (target_range place target)) w

-- a place for a mapping is looked for
abbrev pub FindsNext : World → ℕ → Place → Target → Outcome → World → Type 0
FindsNext w c place target o v =
    (d : Decision) × Decides w.made.file w.slots (To.Place place target) d
    × Becomes (after_finding_place c place target d w) o v

-- ---- Back: the leftmost slot is let go

-- where a mapping looks that can't go to this target: after its hint for a run, after a run in its
-- window
abbrev pub elsewhere : Place → Target → Phase
elsewhere place (Hint range) = Guess place
elsewhere place (Run range) = trying place Window
elsewhere place Window = trying place Window

-- what is still held is let go, and then the mapping looks elsewhere
abbrev pub back_to : Place → Target → Option PageRange → Phase
back_to place target None = elsewhere place target
back_to place target (Some held) = Back place target held

-- the next slot of a place that wasn't free is unlocked
abbrev pub GoesBack : World → ℕ → Place → Target → PageRange → Outcome → World → Type 0
GoesBack w c place target held o v =
    (b : ℕ) × ((t : Slots) × Unlocks w.slots t c held.first held.end b
    × Becomes (to c (back_to place target (held_after held b)) (record w { slots = t })) o v)

-- ---- Cut

-- the mapping is to be made at the range. No core is told: pages that aren't mapped have no
-- recorded core
abbrev pub after_cuts : ℕ → Place → Target → PageRange → World → World
after_cuts c place target range w = to c (Acks (To.Place place target) (Put range place.meta)) w

-- what a step to t comes to, where the call goes on as in `cut` once no slot crosses an edge
abbrev pub CutsTo : World → Slots → Fit → World → Outcome → World → Type 0
CutsTo w t fit.Cut cut o v = Becomes (record w { slots = t }) o v
CutsTo w t fit.Fits cut o v = Becomes cut o v

-- One step towards a range whose edges no slot crosses. How a slot is divided the slot map chooses.
abbrev pub CutsNext : World → ℕ → Place → Target → PageRange → Outcome → World → Type 0
CutsNext w c place target range o v =
    (f : Fit) × ((t : Slots) × CutSteps w.slots t c range f
    × CutsTo w t f (after_cuts c place target range w) o v)
