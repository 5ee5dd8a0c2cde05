use Rattle.std.proofs.Common.{◌≡◌, ◌≤◌, ◌+◌, ◌-◌, length, drop}
use Rattle.word_pictures.specs.Reading.{newlines}
use Rattle.word_pictures.proofs.reading.newlines.Given as goal

abbrev pub invariant-bytes : goal.invariant-bytes
invariant-bytes l = record {
  within : l.at ≤ length l.bytes;
  few : l.count ≤ l.at;
  same : l.count + newlines (drop l.at l.bytes) ≡ newlines l.bytes;
}

abbrev pub decreases-bytes : goal.decreases-bytes
decreases-bytes l = length l.bytes - l.at
