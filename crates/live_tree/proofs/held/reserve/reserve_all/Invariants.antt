use Rattle.slot_lock.proofs.Words.{map, take, All, IsSome}
use Rattle.live_tree.specs.Guards.{slot_of}
use Rattle.live_tree.specs.Held.{AreAlike, HasRoom}
use Rattle.live_tree.proofs.held.reserve.reserve_all.Given as goal

abbrev pub invariant-guards : goal.invariant-guards
invariant-guards g l = record {
  same : AreAlike (map slot_of l.guard-items) (map slot_of l.initial.guard-items);
  room : All (HasRoom l.range) (map slot_of (take l.guard-index l.guard-items));
  some : All IsSome l.guard-items;
}
