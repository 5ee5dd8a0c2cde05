use Rattle.std.specs.Prelude.{All}
use Rattle.live_space.specs.Space.{IsOf}
use Rattle.litmus.proofs.calling.do_lines.Given as goal

-- all seats are still those of the space
abbrev pub invariant-lines : goal.invariant-lines
invariant-lines g l = All (λ lane. IsOf l.live lane.seat) l.lanes
