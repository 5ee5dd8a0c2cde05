use Rattle.std.proofs.Common.{◌≡◌, drop}
use Rattle.draw_steps.specs.Moments.{answer_of}
use Rattle.draw_steps.proofs.moments.answer_of.Given as goal

abbrev pub invariant-moments : goal.invariant-moments
invariant-moments l = answer_of (drop l.recorded-index l.moments) l.call ≡ answer_of l.moments l.call
