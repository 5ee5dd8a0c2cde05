use Rattle.std.proofs.Common.{◌≡◌, ◌++◌, drop}
use Rattle.litmus_report.specs.Texts.{more_mapped}
use Rattle.litmus_report.proofs.mappings.add_more_mapped.Given as goal

-- those so far, and those that are left, are all
abbrev pub invariant-loop-line : goal.invariant-loop-line
invariant-loop-line g l = l.out.items ++ more_mapped (drop l.line-index l.lines) ≡ l.fn.out.items ++ more_mapped l.lines
