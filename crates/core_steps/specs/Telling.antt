-- What a take tells of the message that the core acted on
use Rattle.std.specs.Prelude.{◌≡◌, ℕ}
use Rattle.mmu.specs.declared.message.Took.{Took}
use Rattle.mmu.specs.declared.message.Took.TheVariants as TookOf
use Rattle.mmu.specs.Messages.{asked}
use Rattle.machine_model.specs.declared.event.Event.TheVariants.{Take}
use Rattle.machine_model.specs.declared.event.Outcome.{Outcome}
use Rattle.machine_model.specs.declared.event.Outcome.TheVariants.{Stepped, Idle}
use Rattle.machine_model.specs.Step.{Step}
use Rattle.machine_model.specs.World.{World}

-- what a take comes to where this was asked for
abbrev pub taken_outcome : Took → Outcome
taken_outcome TookOf.Idle = Idle
taken_outcome _ = Stepped

-- what a take that came to this was asked for: where it wasn't made, nothing
abbrev pub told_at : Outcome → Took → Took
told_at Stepped took = took
told_at _ took = TookOf.Idle

-- the core's take, and what its oldest message asked for
abbrev pub TakesTold : World → ℕ → Took → World → Type 0
TakesTold w core took v =
    (o : Outcome) × Step w (Take core) o v × (took ≡ told_at o (asked (w.hardware.inbox core)))
