use Rattle.std.proofs.Common.{◌≡◌, ◌≤◌, ◌-◌, length, drop}
use Rattle.word_import.specs.Replied.{are_whole}
use Rattle.word_import.proofs.replying.are_whole.Given as goal

abbrev pub invariant-calls : goal.invariant-calls
invariant-calls l = record { within : l.at ≤ length l.calls; same : are_whole (drop l.at l.calls) ≡ are_whole l.calls }

abbrev pub decreases-calls : goal.decreases-calls
decreases-calls l = length l.calls - l.at
