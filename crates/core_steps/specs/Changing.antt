-- Which pages a step may change
use Rattle.std.specs.Prelude.{◌≡◌, ℕ, false, Option, None, Some}
use Rattle.vm_base.specs.declared.page.PageRange.{PageRange}
use Rattle.slot_lock.specs.Plan.{range_of}
use Rattle.machine_model.specs.declared.event.Event.{Event}
use Rattle.machine_model.specs.declared.event.Event.TheVariants.{Go, Frame}
use Rattle.machine_model.specs.declared.event.Outcome.{Outcome}
use Rattle.machine_model.specs.declared.phase.Phase.{Phase}
use Rattle.machine_model.specs.declared.phase.Phase.TheVariants.{Acks, Fill, CopyAcks, Install}
use Rattle.machine_model.specs.Holding.{page_of_touch, some_has}
use Rattle.machine_model.specs.World.{World}
use Rattle.machine_model.specs.Step.{Step}

-- the pages that the next step of a call in this phase may change
abbrev pub changes_in : Phase → Option PageRange
changes_in (Acks goal change) = Some (range_of change)
changes_in (Fill touch frame) = Some (page_of_touch touch)
changes_in (CopyAcks touch frame) = Some (page_of_touch touch)
changes_in (Install touch) = Some (page_of_touch touch)
changes_in _ = None

-- The pages that the event may change. That a call which wants a frame takes one (Frame) changes
-- none, in the phase where that is possible.
abbrev pub may_change : World → Event → Option PageRange
may_change w (Go c) = changes_in (w.calls.phase c)
may_change w (Frame c f) = changes_in (w.calls.phase c)
may_change w _ = None

-- each page outside of these has what it had
abbrev pub AllStepsKeepOtherPages : Type 0
AllStepsKeepOtherPages =
    (w v : World) (e : Event) (o : Outcome) → Step w e o v
    → (p : ℕ) → some_has (may_change w e) p ≡ false → v.slots.info p ≡ w.slots.info p
