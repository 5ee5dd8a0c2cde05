use Rattle.std.proofs.Common.{◌≡◌, ◌++◌, drop}
use Rattle.std.specs.List.{flat_map}
use Rattle.litmus.specs.Opening.{calls_of}
use Rattle.litmus.proofs.opening.calls_of.Given as goal

-- those so far, and those that are left, are all
abbrev pub invariant-loop-line : goal.invariant-loop-line
invariant-loop-line g l = l.calls.items ++ flat_map calls_of (drop l.line-index l.lines) ≡ flat_map calls_of l.lines
