use Rattle.vm_calls.proofs.Readable.{readable}
use Rattle.live_space.proofs.Replies.{places_at}
use Rattle.live_space.proofs.Places.{last_settles, placed_inside}
use Rattle.live_space.proofs.placing.decide_place_over.Goals as goal

pub decide-requires-clause-readable : goal.decide-requires-clause-readable
decide-requires-clause-readable g c =
    readable _ _ _ (g.met.M.SlotMap.is_slot_map c.args.map.now) (g.met.M.SlotMap.reads_all c.args.map.now) c.requires

pub returns-clause-inside : goal.returns-clause-inside
returns-clause-inside g c = placed_inside _ c.args.place c.args.target _ c.decide.ensures.decision

pub returns-clause-places : goal.returns-clause-places
returns-clause-places g c = places_at _ c.args.place c.args.target _ c.requires.target c.decide.ensures.decision

pub returns-clause-last : goal.returns-clause-last
returns-clause-last g c = last_settles _ c.args.place c.args.target _ c.decide.ensures.decision
