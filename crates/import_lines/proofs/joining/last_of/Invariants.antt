use Rattle.std.proofs.Common.{◌≡◌, ◌≤◌}
use Rattle.import_lines.specs.Joining.{last_of}
use Rattle.import_lines.proofs.joining.last_of.Given as goal

abbrev pub invariant-earlier : goal.invariant-earlier
invariant-earlier l = record {
  within : l.at ≤ l.place;
  same : last_of l.thread l.lines l.at ≡ last_of l.thread l.lines l.place;
}

abbrev pub decreases-earlier : goal.decreases-earlier
decreases-earlier l = l.at
