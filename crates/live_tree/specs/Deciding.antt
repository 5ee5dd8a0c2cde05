-- What is decided of a change whose pages are held, and which frames they lose
use Rattle.std.specs.Prelude.{ℕ, List, Option}
use Rattle.vm_base.specs.Plain.{File}
use Rattle.slot_lock.specs.declared.plan.Change.{Change}
use Rattle.slot_lock.specs.Plan.{range_of}
use Rattle.slot_lock.specs.Slots.{Slots}
use Rattle.machine_model.specs.Counting.{frame_lost}
use Rattle.vm_calls.specs.declared.decision.Decision.TheVariants as DecisionOf
use Rattle.vm_calls.specs.Decisions.{DecidesChange}
use Rattle.live_tree.specs.Losing.{AreFrames}
use Rattle.live_tree.specs.declared.decide_held.Decided.{Decided}
use Rattle.live_tree.specs.declared.decide_held.Decided.TheVariants.{Refuse, Act}

-- these are the frames that pages lose by the change, in order of pages
abbrev pub Loses : Slots → Change → List ℕ → Type 0
Loses s change = AreFrames (frame_lost change s.info) (range_of change).first (range_of change).end

-- what the slots have decides whether the change is made, which cores are told, and which frames are
-- lost
abbrev pub DecidesHeld : {A : Type 0} → (ℕ → Option File) → Slots → Change → Decided A → Type 0
DecidesHeld files s change (Refuse errno) = DecidesChange files s change (DecisionOf.Refuse errno)
DecidesHeld files s change (Act losses) =
    DecidesChange files s change (DecisionOf.Act (range_of change) losses.cores)
    × Loses s change losses.frames.items
