use Rattle.std.proofs.Common.{◌≡◌, ◌≤◌, ◌-◌, ◌++◌, length, take, drop}
use Rattle.word_pictures.specs.Notes.{before_outcome}
use Rattle.word_pictures.proofs.traced.outcome_at.Given as goal

abbrev pub invariant-bytes : goal.invariant-bytes
invariant-bytes l = record {
  within : l.at ≤ length l.line;
  same : take l.at l.line ++ before_outcome (drop l.at l.line) ≡ before_outcome l.line;
}

abbrev pub decreases-bytes : goal.decreases-bytes
decreases-bytes l = length l.line - l.at
