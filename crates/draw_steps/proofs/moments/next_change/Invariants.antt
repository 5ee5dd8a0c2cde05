use Rattle.std.proofs.Common.{◌≡◌, drop}
use Rattle.draw_steps.specs.Moments.{next_change}
use Rattle.draw_steps.proofs.moments.next_change.Given as goal

abbrev pub invariant-moments : goal.invariant-moments
invariant-moments l = next_change (drop l.recorded-index l.moments) l.page l.step ≡ next_change l.moments l.page l.step
