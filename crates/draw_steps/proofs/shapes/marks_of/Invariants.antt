use Rattle.std.proofs.Common.{◌≡◌, take}
use Rattle.draw_steps.specs.Shapes.{marks_of}
use Rattle.draw_steps.proofs.shapes.marks_of.Given as goal

abbrev pub invariant-moments : goal.invariant-moments
invariant-moments l = l.marks.items ≡ marks_of (take l.recorded-index l.moments)
