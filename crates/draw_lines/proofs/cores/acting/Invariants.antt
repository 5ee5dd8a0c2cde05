use Rattle.std.proofs.Common.{◌≡◌}
use Rattle.draw_lines.specs.Cores.{acting, acts}
use Rattle.draw_lines.proofs.cores.acting.Given as goal

abbrev pub invariant-cores : goal.invariant-cores
invariant-cores l = record { cores : l.cores ≡ acting (acts l.moments) l.index }
