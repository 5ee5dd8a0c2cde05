use Rattle.std.proofs.Common.{◌≡◌, take}
use Rattle.draw_steps.specs.Shapes.{arrows_of}
use Rattle.draw_steps.proofs.shapes.arrows_of.Given as goal

abbrev pub invariant-moments : goal.invariant-moments
invariant-moments l = l.arrows.items ≡ arrows_of l.moments (take l.recorded-index l.moments)
