-- Which plain page map an audit has come to
use Rattle.slot_lock.specs.declared.slot_map.SlotMap.{Ghosts as MapGhosts}
use Rattle.slot_lock.specs.declared.slot_map.SlotRead.{Ghosts as ReadGhosts}
use Rattle.vm_base.specs.Plain.{Plain}
use Rattle.audit.specs.declared.auditor.Auditor.{Auditor}
use Rattle.audit.specs.Keeping.{plain_kept}

abbrev pub plain_of : {M A : Type 0} {map : MapGhosts M} {read : ReadGhosts M}
    → Auditor M A map read → Plain
plain_of {read = read} it = plain_kept (read.slots it.map) it.objects it.frames
