use Rattle.std.proofs.Common.{◌≡◌, None, drop}
use Rattle.draw_steps.specs.Moments.{backing_of}
use Rattle.draw_steps.proofs.moments.backing_of.Given as goal

abbrev pub invariant-moments : goal.invariant-moments
invariant-moments l = backing_of l.known (drop l.recorded-index l.moments) l.page l.step ≡ backing_of None l.moments l.page l.step
