use Rattle.std.proofs.Common.{◌≡◌, ◌++◌, drop}
use Rattle.orders.specs.Pages.{parts_from}
use Rattle.orders.proofs.splitting.split.Given as goal

-- the parts so far, and those of the calls that are left
abbrev pub invariant-calls : goal.invariant-calls
invariant-calls g l = l.parts.items ++ parts_from l.at (drop l.at l.history) ≡ parts_from 0 l.history
