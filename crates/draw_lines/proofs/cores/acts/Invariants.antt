use Rattle.std.proofs.Common.{◌≡◌, drop}
use Rattle.draw_lines.specs.Cores.{acts}
use Rattle.draw_lines.proofs.cores.acts.Given as goal

abbrev pub invariant-moments : goal.invariant-moments
invariant-moments l = acts (drop l.recorded-index l.moments) l.core ≡ acts l.moments l.core
