use Rattle.radix_range.specs.Tree.{tree_slots}
use Rattle.slot_lock.specs.Slots.{OwnsAll}
use Rattle.bench_parts.proofs.slots.is_held.Given as goal

abbrev pub invariant-pages : goal.invariant-pages
invariant-pages l = OwnsAll (tree_slots l.map.root) l.core l.fn.range.first l.page
