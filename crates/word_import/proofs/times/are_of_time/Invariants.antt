use Rattle.std.proofs.Common.{◌≡◌, ◌≤◌, ◌-◌, length, drop}
use Rattle.word_import.specs.Times.{are_of_time}
use Rattle.word_import.proofs.times.are_of_time.Given as goal

abbrev pub invariant-bytes : goal.invariant-bytes
invariant-bytes l = record { within : l.at ≤ length l.token; same : are_of_time (drop l.at l.token) ≡ are_of_time l.token }

abbrev pub decreases-bytes : goal.decreases-bytes
decreases-bytes l = length l.token - l.at
