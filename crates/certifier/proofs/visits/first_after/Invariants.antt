use Rattle.std.proofs.Common.{ℕ, ◌-◌, ◌+◌, ◌<◌, ◌≤◌, length, get_or}
use Rattle.live_levels.specs.declared.close.SlotHistory.{SlotHistory}
use Rattle.certifier.proofs.visits.first_after.Given as goal

-- the slots below `low` end by the page
abbrev pub invariant-halves : goal.invariant-halves
invariant-halves g l = record {
  low : l.low ≤ l.high;
  high : l.high ≤ length l.slots;
  before : (k : ℕ) (d : SlotHistory g.row.A.Denot) → k < l.low → (get_or l.slots k d).first + (get_or l.slots k d).count ≤ l.page;
}

abbrev pub decreases-halves : goal.decreases-halves
decreases-halves g l = l.high - l.low
