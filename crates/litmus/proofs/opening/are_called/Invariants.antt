use Rattle.std.proofs.Common.{◌≡◌, drop}
use Rattle.std.specs.List.{list_all}
use Rattle.litmus.specs.Opening.{is_called}
use Rattle.litmus.proofs.opening.are_called.Given as goal

-- so are those so far
abbrev pub invariant-loop-line : goal.invariant-loop-line
invariant-loop-line l = list_all is_called (drop l.line-index l.lines) ≡ list_all is_called l.lines
