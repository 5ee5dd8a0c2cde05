use Rattle.std.proofs.Common.{ℕ, map}
use Rattle.slot_lock.specs.ListedSlots.{slots_of}
use Rattle.live_tree.specs.Guards.{slot_of}
use Rattle.live_tree.specs.Held.{SideBySide}
use Rattle.live_tree.proofs.Lending.{LentSoFar}
use Rattle.live_tree.proofs.held.lend.lend_all.Given as goal

abbrev pub invariant-guards : goal.invariant-guards
invariant-guards g l = (first last : ℕ) → SideBySide first last (map slot_of l.guard-items)
    → LentSoFar l.core first l.guard-items l.guard-index (slots_of l.lent.slots.items)
