-- Events
use Rattle.std.specs.Prelude.{ℕ, Option, None, Some}
use Rattle.machine_model.specs.declared.event.Event.{Event}
use Rattle.machine_model.specs.declared.event.Event.TheVariants.{Call, Go, Frame, Guess, Whole, Take}
use Rattle.machine_model.specs.declared.event.Event.TheVariants.{Walk, Evict, Flush, Review, Fold}
use Rattle.machine_model.specs.declared.event.Event.TheVariants.{GiveUp}

-- the core that takes the step, if one does
abbrev pub core_of : Event → Option ℕ
core_of (Call c request) = Some c
core_of (Go c) = Some c
core_of (Frame c f) = Some c
core_of (Guess c p) = Some c
core_of (Whole c) = Some c
core_of (Take c) = Some c
core_of (Walk c p) = Some c
core_of (Evict c p) = Some c
core_of (Flush c) = Some c
core_of (Review c) = Some c
core_of (Fold p) = None
core_of (GiveUp c) = Some c
