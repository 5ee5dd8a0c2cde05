use Rattle.std.proofs.Common.{◌≡◌, ◌++◌, ◌-◌, ◌≤◌, drop, length}
use Rattle.litmus_report.specs.Texts.{finals_text}
use Rattle.litmus_report.proofs.texts.add_finals.Given as goal

-- those so far, and those that are left, are all
abbrev pub invariant-addrs : goal.invariant-addrs
invariant-addrs g l = record {
  within : l.at ≤ length l.addrs;
  within_finals : l.at ≤ length l.finals;
  written : l.out.items ++ finals_text (drop l.at l.addrs) (drop l.at l.finals) ≡ l.fn.out.items ++ finals_text l.addrs l.finals;
}

abbrev pub decreases-addrs : goal.decreases-addrs
decreases-addrs g l = length l.addrs - l.at
