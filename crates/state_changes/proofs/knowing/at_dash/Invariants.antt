use Rattle.std.proofs.Common.{◌≡◌, ◌≤◌, ◌-◌, ◌++◌, length, take, drop}
use Rattle.state_changes.specs.Knowing.{before_dash, behind_dash}
use Rattle.state_changes.proofs.knowing.at_dash.Given as goal

abbrev pub invariant-bytes : goal.invariant-bytes
invariant-bytes l = record {
  within : l.at ≤ length l.word;
  before : take l.at l.word ++ before_dash (drop l.at l.word) ≡ before_dash l.word;
  behind : behind_dash (drop l.at l.word) ≡ behind_dash l.word;
}

abbrev pub decreases-bytes : goal.decreases-bytes
decreases-bytes l = length l.word - l.at
