use Rattle.std.proofs.Common.{◌++◌, List, drop}
use Rattle.orders.specs.declared.history.Timed.{Timed}
use Rattle.orders.specs.Pages.{AreChosen}
use Rattle.orders.proofs.choosing.chosen.Given as goal

-- the calls so far, and whichever of the parts that are left
abbrev pub invariant-parts : goal.invariant-parts
invariant-parts g l = (rest : List Timed) → AreChosen (drop l.at l.parts) rest → AreChosen l.parts (l.calls.items ++ rest)
