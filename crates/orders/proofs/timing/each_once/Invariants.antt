use Rattle.std.proofs.Common.{length}
use Rattle.orders.specs.Once.{IsMarked}
use Rattle.orders.proofs.timing.each_once.Given as goal

-- the items so far have the marked calls once
abbrev pub invariant-order : goal.invariant-order
invariant-order l = IsMarked (length l.fn.marks) l.items l.at l.marks
