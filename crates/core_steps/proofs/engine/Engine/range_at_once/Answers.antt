use Rattle.slot_lock.specs.declared.plan.Goal.TheVariants as To
use Rattle.vm_calls.proofs.Readable.{readable}
use Rattle.core_steps.proofs.engine.Engine.range_at_once.Goals as goal

pub decide_surveyed-requires-clause-readable : goal.decide_surveyed-requires-clause-readable
decide_surveyed-requires-clause-readable g c =
    readable _ _ (To.Change c.args.change) (g.met.M.SlotMap.is_slot_map c.args.self.now.map) (g.met.M.SlotMap.reads_all c.args.self.now.map)
    c.requires.at.goal
