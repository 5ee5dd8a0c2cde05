use Rattle.std.proofs.Common.{◌≡◌, ◌≤◌}
use Rattle.import_lines.specs.Torn.{last_text}
use Rattle.import_lines.proofs.torn.last_place.Given as goal

abbrev pub invariant-earlier : goal.invariant-earlier
invariant-earlier l = record {
  within : l.at ≤ l.place;
  same : last_text l.thread l.lines l.at ≡ last_text l.thread l.lines l.place;
}

abbrev pub decreases-earlier : goal.decreases-earlier
decreases-earlier l = l.at
