-- Which state of the abstract machine a machine has, and what holds of it
use Rattle.slot_lock.specs.declared.slot_map.SlotMap.{Ghosts as MapGhosts}
use Rattle.slot_lock.specs.declared.slot_map.SlotRead.{Ghosts as ReadGhosts}
use Rattle.machine_model.specs.World.{World}
use Rattle.machine_model.specs.Sound.{IsReached, IsSoundState}
use Rattle.core_steps.specs.declared.machine.Machine.{Machine}
use Rattle.core_steps.specs.State.{world}

-- the state that the machine has
abbrev pub state : {M A L : Type 0} {map : MapGhosts M} {read : ReadGhosts M} {clone : _}
    {ledger : _} {cpu : _} → Machine M A L map read clone ledger cpu → World
state {read = read} it = world read.slots it.engine

-- a run of events leads to it, and it is sound
pub record IsLegal (w : World) : Type 0 where
  pub reached : ∥ IsReached w ∥₁
  pub sound : ∥ IsSoundState w ∥₁
