use Rattle.std.proofs.Common.{◌≡◌, ◌≤◌, ◌-◌, ◌++◌, drop}
use Rattle.orders_text.specs.History.{all_open, replies_in}
use Rattle.orders_text.proofs.waiting.completed.Given as goal

-- the calls so far, and those of the cores that are left
abbrev pub invariant-cores : goal.invariant-cores
invariant-cores g l = record {
  within : l.core ≤ 64;
  same : l.calls.items ++ all_open (replies_in l.replies) l.core (drop l.core l.history.waiting.items)
      ≡ l.history.calls.items ++ all_open (replies_in l.replies) 0 l.history.waiting.items;
}

abbrev pub decreases-cores : goal.decreases-cores
decreases-cores g l = 64 - l.core
