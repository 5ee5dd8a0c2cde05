use Rattle.std.proofs.Common.{◌≡◌, ◌≤◌, ◌-◌, ◌++◌, length, drop}
use Rattle.std.specs.List.{flat_map}
use Rattle.word_import.specs.Replied.{call_line}
use Rattle.word_import.proofs.replying.push_calls.Given as goal

-- what was written, and the lines of the others
abbrev pub invariant-calls : goal.invariant-calls
invariant-calls l = record {
  within : l.at ≤ length l.calls;
  written : l.all.items ++ flat_map (call_line l.clock) (drop l.at l.calls) ≡ l.initial.all.items ++ flat_map (call_line l.clock) l.calls;
}

abbrev pub decreases-calls : goal.decreases-calls
decreases-calls l = length l.calls - l.at
