use Rattle.std.proofs.Common.{◌≡◌, ◌≤◌, ◌-◌, length, drop}
use Rattle.word_import.specs.Replied.{are_timed}
use Rattle.word_import.proofs.replying.are_timed.Given as goal

abbrev pub invariant-calls : goal.invariant-calls
invariant-calls l = record { within : l.at ≤ length l.calls; same : are_timed (drop l.at l.calls) ≡ are_timed l.calls }

abbrev pub decreases-calls : goal.decreases-calls
decreases-calls l = length l.calls - l.at
