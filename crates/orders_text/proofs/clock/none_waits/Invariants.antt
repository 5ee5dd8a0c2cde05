use Rattle.std.proofs.Common.{◌≡◌, ◌≤◌, None}
use Rattle.std.specs.Prelude.{replicate, vec_len, vec_capacity}
use Rattle.orders_text.proofs.clock.none_waits.Given as goal

-- so many places so far, and room for the others
abbrev pub invariant-cores : goal.invariant-cores
invariant-cores g l = record {
  waiting : l.waiting.items ≡ replicate l._core None;
  count : vec_len l.waiting ≡ l._core;
  room : 64 ≤ vec_capacity l.waiting;
}
