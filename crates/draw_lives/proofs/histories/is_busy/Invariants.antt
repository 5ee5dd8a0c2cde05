use Rattle.std.proofs.Common.{◌≡◌, drop}
use Rattle.draw_lives.specs.Histories.{is_busy}
use Rattle.draw_lives.proofs.histories.is_busy.Given as goal

abbrev pub invariant-calls : goal.invariant-calls
invariant-calls l = is_busy l.core (drop l.call-index l.calls) ≡ is_busy l.core l.calls
