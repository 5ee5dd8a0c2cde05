-- The users of a page, as the machine has them
use Rattle.vm_base.specs.Info.{is_recorded}
use Rattle.vm_base.specs.Users.{Users}
use Rattle.slot_lock.specs.Slots.{Slots}

-- the cores that are recorded on a page
abbrev pub recorded : Slots → Users
recorded s p c = is_recorded (s.info p) c
