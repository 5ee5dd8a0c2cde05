use Rattle.std.proofs.Common.{◌≡◌, ◌+◌, drop}
use Rattle.litmus_report.specs.Counts.{digits_before}
use Rattle.litmus_report.proofs.counting.digits_before.Given as goal

-- digits so far, and those behind them, are all
abbrev pub invariant-loop-at : goal.invariant-loop-at
invariant-loop-at l = l.at + digits_before (drop l.at l.line) ≡ digits_before l.line
