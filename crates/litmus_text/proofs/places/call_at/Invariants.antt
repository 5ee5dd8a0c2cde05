use Rattle.std.proofs.Common.{◌≡◌, ◌+◌, drop}
use Rattle.std.specs.Prelude.{option_map}
use Rattle.litmus_text.specs.Places.{call_at}
use Rattle.litmus_text.proofs.places.call_at.Given as goal

-- the call is among those that are left
abbrev pub invariant-loop-at : goal.invariant-loop-at
invariant-loop-at l =
    option_map (λ k. l.at + k) (call_at (drop l.at l.calls) l.core l.left) ≡ call_at l.calls l.core l.number
