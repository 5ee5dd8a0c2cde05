use Rattle.std.proofs.Common.{◌≡◌, ◌≢◌, ℕ, ◌<◌, None, Some, slice_get}
use Rattle.litmus_merges.specs.declared.asked.Asked.{Asked}
use Rattle.litmus_merges.proofs.nodes.next_call.Given as goal

-- each earlier call of the core so far has a reply
abbrev pub invariant-earlier : goal.invariant-earlier
invariant-earlier l = (k : ℕ) (other : Asked) → k < l.k → slice_get l.calls k ≡ Some other → other.core ≡ l.call.core
    → slice_get l.told k ≢ Some None
