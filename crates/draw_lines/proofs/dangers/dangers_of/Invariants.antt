use Rattle.std.proofs.Common.{◌≡◌, take}
use Rattle.draw_lines.specs.Dangers.{dangers_of}
use Rattle.draw_lines.proofs.dangers.dangers_of.Given as goal

abbrev pub invariant-moments : goal.invariant-moments
invariant-moments l = l.dangers.items ≡ dangers_of l.moments (take l.recorded-index l.moments)
