use Rattle.slot_lock.proofs.Words.{◌≡◌, map, take, drop, ◌++◌, All, IsSome}
use Rattle.live_tree.specs.Guards.{slot_of}
use Rattle.live_tree.specs.Held.{committed}
use Rattle.live_tree.proofs.held.commit_all.Given as goal

abbrev pub invariant-guards : goal.invariant-guards
invariant-guards g l = record {
  slots : map slot_of l.guard-items
      ≡ map (committed l.ticket l.change) (take l.guard-index (map slot_of l.initial.guard-items)) ++ drop l.guard-index (map slot_of l.initial.guard-items);
  some : All IsSome l.guard-items;
}
