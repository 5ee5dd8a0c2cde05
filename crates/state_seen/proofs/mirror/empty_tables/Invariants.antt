use Rattle.std.proofs.Common.{◌≡◌, ℕ, None, length}
use Rattle.state_seen.specs.Edits.{table_at}
use Rattle.state_seen.proofs.mirror.empty_tables.Given as goal

abbrev pub invariant-cores : goal.invariant-cores
invariant-cores g l = record {
  many : length l.tables.items ≡ l._core;
  none : (c p : ℕ) → table_at l.tables.items c p ≡ None;
}
