-- The plain page map to which a machine's log leads
use Rattle.vm_base.specs.Log.{Replays}
use Rattle.vm_base.specs.Plain.{Plain, nothing_mapped}
use Rattle.machine_model.specs.World.{World}

-- the log of w, applied to no mappings and the files of the start, leads to the plain page map t
abbrev pub LeadsTo : World → Plain → Type 0
LeadsTo w t = Replays w.calls.requests (nothing_mapped w.made.file) w.calls.log t
