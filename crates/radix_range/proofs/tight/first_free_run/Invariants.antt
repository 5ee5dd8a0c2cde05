use Rattle.std.proofs.Common.{ℕ, ◌≤◌}
use Rattle.slot_lock.specs.Slots.{IsFreeRun}
use Rattle.radix_range.specs.Tree.{tree_slots}
use Rattle.radix_range.proofs.tight.first_free_run.Given as goal

abbrev pub invariant-tights : goal.invariant-tights
invariant-tights g l = (l.range.first ≤ l.from) × ((r : ℕ) → IsFreeRun (tree_slots l.root) l.range l.n r → l.from ≤ r)
