use Rattle.std.proofs.Common.{◌≡◌, ◌≤◌, ◌-◌, length, drop}
use Rattle.word_import.specs.Times.{digits_from}
use Rattle.word_import.proofs.times.digits_of.Given as goal

abbrev pub invariant-bytes : goal.invariant-bytes
invariant-bytes l = record {
  within : l.at ≤ length l.token;
  same : digits_from l.number (drop l.at l.token) ≡ digits_from 0 l.token;
}

abbrev pub decreases-bytes : goal.decreases-bytes
decreases-bytes l = length l.token - l.at
