-- The pages that were used
use Rattle.std.specs.Prelude.{ℕ, Option, None, Some, if◌then◌else◌}
use Rattle.vm_base.specs.declared.info.PageInfo.{PageInfo}
use Rattle.vm_base.specs.Info.{is_leaf}
use Rattle.machine_model.specs.World.{World}
use Rattle.state_seen.specs.declared.used.Used.{Used}

-- what a page has that has a frame, or on which a core is recorded
abbrev pub used_of : Option PageInfo → Option Used
used_of None = None
used_of (Some info) =
    if is_leaf (Some info) then Some (record { frame = info.frame; cores = info.cores }) else None

-- the same of a page in a state
abbrev pub used_in : World → ℕ → Option Used
used_in w p = used_of (w.slots.info p)
