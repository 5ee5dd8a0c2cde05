use Rattle.std.proofs.Common.{◌≡◌, ◌≤◌}
use Rattle.live_pages.specs.Targets.{count_below}
use Rattle.live_pages.proofs.telling.count_of.Given as goal

abbrev pub invariant-cores : goal.invariant-cores
invariant-cores l = record {
  count : l.count ≡ count_below l.set l.index;
  few : l.count ≤ l.index;
}
