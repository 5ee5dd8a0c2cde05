use Rattle.slot_lock.proofs.Defaults.{mapped_by_room}
use Rattle.slot_lock.proofs.slot_map.SlotRead.all_mapped.Goals as goal

pub returns : goal.returns
returns g c = mapped_by_room (g.Self.SlotRead.slots c.args.self.now) c.args.range c.first_free_run.result c.is_none.result c.is_none.ensures
    c.first_free_run.ensures.found c.first_free_run.ensures.none
