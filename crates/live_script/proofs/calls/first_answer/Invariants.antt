use Rattle.std.proofs.Common.{◌≡◌, length}
use Rattle.seats.specs.Packing.{shown}
use Rattle.live_script.specs.History.{first_answer}
use Rattle.live_script.proofs.calls.first_answer.Given as goal

-- no note so far answers or begins a call
abbrev pub invariant-notes : goal.invariant-notes
invariant-notes l = first_answer (shown l.rest) ≡ first_answer (shown l.fn.notes)

abbrev pub decreases-notes : goal.decreases-notes
decreases-notes l = length (shown l.rest)
