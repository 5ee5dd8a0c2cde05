use Rattle.orders.proofs.TimeLemmas.{IsLatest}
use Rattle.orders.proofs.timing.keeps_time.Given as goal

-- the items so far keep time, and this is the last of their beginnings
abbrev pub invariant-order : goal.invariant-order
invariant-order l = IsLatest l.history l.items l.at l.latest
