use Rattle.slot_lock.proofs.Divisions.{divided-IsSlotMap, joined-IsSlotMap}
use Rattle.slot_lock.proofs.laws.divisions_and_joins_give_slot_maps.Goals as goal

pub returns-clause-divided : goal.returns-clause-divided
returns-clause-divided c = divided-IsSlotMap

pub returns-clause-joined : goal.returns-clause-joined
returns-clause-joined c = joined-IsSlotMap
