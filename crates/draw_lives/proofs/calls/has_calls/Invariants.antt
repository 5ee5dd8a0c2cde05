use Rattle.std.proofs.Common.{◌≡◌, length}
use Rattle.draw_lives.specs.Calls.{has_calls}
use Rattle.draw_lives.proofs.calls.has_calls.Given as goal

abbrev pub invariant-lines : goal.invariant-lines
invariant-lines l = has_calls l.rest ≡ has_calls l.text

abbrev pub decreases-lines : goal.decreases-lines
decreases-lines l = length l.rest
