use Rattle.std.proofs.Common.{◌≡◌, ◌++◌, drop}
use Rattle.std.specs.List.{flat_map}
use Rattle.litmus_report.specs.Program.{call_row}
use Rattle.litmus_report.proofs.program.add_calls.Given as goal

-- those so far, and those that are left, are all
abbrev pub invariant-loop-call : goal.invariant-loop-call
invariant-loop-call g l = l.out.items ++ flat_map call_row (drop l.call-index l.calls) ≡ l.fn.out.items ++ flat_map call_row l.calls
