-- The take of a core's oldest message, as the machine has it
use Rattle.std.proofs.Common.{◌≡◌, ℕ}
use Rattle.mmu.specs.declared.message.Took.{Took}
use Rattle.mmu.specs.declared.message.Took.TheVariants.{Clear, Invalidate, Idle}
use Rattle.machine_model.specs.declared.event.Outcome.TheVariants.{Stepped}
use Rattle.machine_model.specs.World.{World}
use Rattle.machine_model.specs.Translating.{TakesMessage, with_hardware}
use Rattle.live_pages.specs.OneCore.{after_take}

pub takes_so : (w v : World) (c : ℕ) (took : Took) → TakesMessage w c took Stepped v → v ≡ with_hardware (after_take c took w.hardware) w
takes_so w v c (Clear range) h = h.1
takes_so w v c (Invalidate range) h = h.1
takes_so w v c Idle h = h.1
