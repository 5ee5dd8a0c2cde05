use Rattle.std.proofs.Common.{◌≡◌, drop}
use Rattle.draw_lines.specs.Dangers.{acknowledged}
use Rattle.draw_lines.proofs.dangers.acknowledged.Given as goal

abbrev pub invariant-moments : goal.invariant-moments
invariant-moments l = acknowledged (drop l.recorded-index l.moments) l.sender l.core l.column ≡ acknowledged l.moments l.sender l.core l.column
