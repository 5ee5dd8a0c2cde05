use Rattle.std.proofs.Common.{◌≡◌, ◌≤◌}
use Rattle.import_lines.specs.Made.{last_line}
use Rattle.import_lines.proofs.returning.last_or_here.Given as goal

abbrev pub invariant-earlier : goal.invariant-earlier
invariant-earlier l = record {
  within : l.at ≤ l.place;
  same : last_line l.lines l.at l.thread ≡ last_line l.lines l.place l.thread;
}

abbrev pub decreases-earlier : goal.decreases-earlier
decreases-earlier l = l.at
