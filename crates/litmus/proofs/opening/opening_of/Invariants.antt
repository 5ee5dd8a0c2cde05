use Rattle.std.proofs.Common.{◌≡◌, ◌++◌, drop}
use Rattle.std.specs.List.{flat_map}
use Rattle.litmus.specs.Opening.{opened_of}
use Rattle.litmus.proofs.opening.opening_of.Given as goal

-- those so far, and those that are left, are all
abbrev pub invariant-loop-line : goal.invariant-loop-line
invariant-loop-line g l = l.opening.items ++ flat_map opened_of (drop l.line-index l.lines) ≡ flat_map opened_of l.lines
