use Rattle.std.proofs.Common.{ℕ, ◌≤◌, ◌<◌, ◌-◌, length}
use Rattle.state_seen.specs.Lists.{page_in}
use Rattle.state_seen.proofs.list.place_of.Given as goal

abbrev pub invariant-halves : goal.invariant-halves
invariant-halves g l = record {
  rises : l.low ≤ l.high;
  within : l.high ≤ length l.entries;
  below : (k : ℕ) → k < l.low → page_in l.entries k < l.page;
  above : (k : ℕ) → l.high ≤ k → k < length l.entries → l.page ≤ page_in l.entries k;
}

abbrev pub decreases-halves : goal.decreases-halves
decreases-halves g l = l.high - l.low
