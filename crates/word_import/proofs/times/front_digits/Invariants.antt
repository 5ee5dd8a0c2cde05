use Rattle.std.proofs.Common.{◌≡◌, ◌≤◌, ◌-◌, ◌+◌, length, drop}
use Rattle.word_import.specs.Times.{front_digits}
use Rattle.word_import.proofs.times.front_digits.Given as goal

abbrev pub invariant-bytes : goal.invariant-bytes
invariant-bytes l = record {
  within : l.count ≤ length l.token;
  same : l.count + front_digits (drop l.count l.token) ≡ front_digits l.token;
}

abbrev pub decreases-bytes : goal.decreases-bytes
decreases-bytes l = length l.token - l.count
