use Rattle.std.proofs.Common.{◌≡◌, ℕ, ◌<◌, None, false, get_or, is_some}
use Rattle.loosely.proofs.waiting.none_waits.Given as goal

-- the calls of the cores so far don't wait
abbrev pub invariant-cores : goal.invariant-cores
invariant-cores l = (k : ℕ) → k < l.core → is_some (get_or l.waiting k None) ≡ false
