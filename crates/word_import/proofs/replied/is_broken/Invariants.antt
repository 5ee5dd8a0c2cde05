use Rattle.std.proofs.Common.{◌≡◌, ◌≤◌, ◌-◌, length, drop, map}
use Rattle.word_import.specs.Replied.{is_broken, line_text}
use Rattle.word_import.proofs.replied.is_broken.Given as goal

abbrev pub invariant-lines : goal.invariant-lines
invariant-lines l = record {
  within : l.at ≤ length l.raw;
  same : is_broken (map line_text (drop l.at l.raw)) ≡ is_broken (map line_text l.raw);
}

abbrev pub decreases-lines : goal.decreases-lines
decreases-lines l = length l.raw - l.at
