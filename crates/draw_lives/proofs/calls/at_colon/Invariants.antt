use Rattle.std.proofs.Common.{◌≡◌, ◌≤◌, ◌-◌, ◌++◌, length, take, drop}
use Rattle.draw_lives.specs.Calls.{before_colon, behind_colon}
use Rattle.draw_lives.proofs.calls.at_colon.Given as goal

abbrev pub invariant-bytes : goal.invariant-bytes
invariant-bytes l = record {
  within : l.at ≤ length l.line;
  before : take l.at l.line ++ before_colon (drop l.at l.line) ≡ before_colon l.line;
  behind : behind_colon (drop l.at l.line) ≡ behind_colon l.line;
}

abbrev pub decreases-bytes : goal.decreases-bytes
decreases-bytes l = length l.line - l.at
