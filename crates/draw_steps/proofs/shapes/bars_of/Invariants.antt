use Rattle.std.proofs.Common.{◌≡◌, take}
use Rattle.draw_steps.specs.Shapes.{bars_of}
use Rattle.draw_steps.proofs.shapes.bars_of.Given as goal

abbrev pub invariant-moments : goal.invariant-moments
invariant-moments l = l.bars.items ≡ bars_of l.moments (take l.recorded-index l.moments)
