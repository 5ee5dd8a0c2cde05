use Rattle.std.proofs.Common.{◌≡◌, ◌≤◌, ◌-◌, length, drop}
use Rattle.import_lines.specs.Made.{shares_any}
use Rattle.import_lines.proofs.made.any_shares.Given as goal

abbrev pub invariant-makings : goal.invariant-makings
invariant-makings l = record { within : l.at ≤ length l.list; same : shares_any (drop l.at l.list) ≡ shares_any l.list }

abbrev pub decreases-makings : goal.decreases-makings
decreases-makings l = length l.list - l.at
