use Rattle.std.proofs.Common.{◌≡◌, ℕ, ◌<◌, Some, false, slice_get}
use Rattle.vm_base.specs.Requests.{is_placed}
use Rattle.litmus_merges.specs.declared.asked.Asked.{Asked}
use Rattle.litmus_merges.proofs.opening.are_named.Given as goal

-- those so far leave no place open
abbrev pub invariant-calls : goal.invariant-calls
invariant-calls l = (k : ℕ) (call : Asked) → k < l.k → slice_get l.calls k ≡ Some call → is_placed call.request ≡ false
