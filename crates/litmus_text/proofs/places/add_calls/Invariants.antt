use Rattle.std.proofs.Common.{◌≡◌, ◌++◌, take}
use Rattle.litmus_text.specs.Scripts.{calls_of}
use Rattle.litmus_text.proofs.places.add_calls.Given as goal

-- those of the core so far are appended
abbrev pub invariant-calls : goal.invariant-calls
invariant-calls g l = l.sorted.items ≡ l.fn.sorted.items ++ calls_of (take l.at l.calls) l.core
