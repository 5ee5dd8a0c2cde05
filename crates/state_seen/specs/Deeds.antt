-- What an event does to TLBs and inboxes
use Rattle.std.specs.Prelude.{ℕ, cond, nat_lt}
use Rattle.vm_base.specs.Info.{recorded_cores}
use Rattle.slot_lock.specs.Plan.{range_of}
use Rattle.machine_model.specs.declared.event.Event.{Event}
use Rattle.machine_model.specs.declared.event.Event.TheVariants as By
use Rattle.machine_model.specs.declared.phase.Phase.{Phase}
use Rattle.machine_model.specs.declared.phase.Phase.TheVariants.{Try, Post, CopyPost}
use Rattle.machine_model.specs.Holding.{page_of_touch}
use Rattle.machine_model.specs.World.{World}
use Rattle.state_seen.specs.declared.deed.HardwareStep.{HardwareStep}
use Rattle.state_seen.specs.declared.deed.HardwareStep.TheVariants.{Nothing, Translate, Shoot, Take, Walk, Evict}

-- by the next step of core c's call, which stands so: an access is translated, or the cores that are
-- recorded on the pages are told
abbrev pub deed_at : World → ℕ → Phase → HardwareStep
deed_at w c (Try touch) = Translate c touch (w.hardware.table c touch.page)
deed_at w c (Post change shoot) = Shoot c shoot (range_of change)
deed_at w c (CopyPost touch frame) =
    Shoot c (recorded_cores (w.slots.info touch.page)) (page_of_touch touch)
deed_at w c _ = Nothing

-- a core that isn't there does nothing
abbrev pub if_here : World → ℕ → HardwareStep → HardwareStep
if_here w c deed = cond (nat_lt c w.made.cores) deed Nothing

abbrev pub deed_of : World → Event → HardwareStep
deed_of w (By.Go c) = if_here w c (deed_at w c (w.calls.phase c))
deed_of w (By.Frame c f) = if_here w c (deed_at w c (w.calls.phase c))
deed_of w (By.Take c) = if_here w c (Take c)
deed_of w (By.Walk c page) = if_here w c (Walk c page (w.hardware.table c page))
deed_of w (By.Evict c page) = if_here w c (Evict c page)
deed_of w _ = Nothing
