-- What the cores of a machine have
use Rattle.mmu.specs.declared.cpu.Hardware.{Ghosts}
use Rattle.core_steps.specs.declared.engine.cores.Cores.{Cores}
use Rattle.core_steps.specs.Cores.{CoreParts, parts_of}

module _ {H A : Type 0} {cpu : Ghosts H} where
  abbrev pub parts : Cores H A cpu → CoreParts
  parts it = parts_of cpu.table cpu.tlb it.cpus.items it.inboxes
