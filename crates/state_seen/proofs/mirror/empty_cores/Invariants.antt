use Rattle.std.proofs.Common.{◌≡◌, ℕ, length}
use Rattle.state_seen.specs.Held.{held, nothing_held}
use Rattle.state_seen.proofs.mirror.empty_cores.Given as goal

abbrev pub invariant-cores : goal.invariant-cores
invariant-cores g l = record {
  many : length l.cores.items ≡ l._core;
  none : (c : ℕ) → held l.cores.items c ≡ nothing_held;
}
