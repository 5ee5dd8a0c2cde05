use Rattle.std.proofs.Common.{◌≡◌, ◌++◌, drop}
use Rattle.std.specs.List.{flat_map}
use Rattle.litmus_report.specs.Program.{final_row}
use Rattle.litmus_report.proofs.program.add_addrs.Given as goal

-- those so far, and those that are left, are all
abbrev pub invariant-loop-addr : goal.invariant-loop-addr
invariant-loop-addr g l = l.out.items ++ flat_map final_row (drop l.addr-index l.addrs) ≡ l.fn.out.items ++ flat_map final_row l.addrs
