use Rattle.vm_calls.proofs.Readable.{readable}
use Rattle.live_tree.proofs.decide_held.decide_over.Goals as goal

pub decide-requires-clause-readable : goal.decide-requires-clause-readable
decide-requires-clause-readable g c =
    readable _ _ c.args.goal (g.met.M.SlotMap.is_slot_map c.args.map.now) (g.met.M.SlotMap.reads_all c.args.map.now) c.requires.sound
