use Rattle.std.proofs.Common.{◌≡◌, None, drop}
use Rattle.draw_steps.specs.Moments.{latest_told}
use Rattle.draw_steps.proofs.moments.latest_told.Given as goal

abbrev pub invariant-moments : goal.invariant-moments
invariant-moments l = latest_told l.told (drop l.recorded-index l.moments) l.sender l.core l.step ≡ latest_told None l.moments l.sender l.core l.step
