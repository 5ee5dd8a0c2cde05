use Rattle.std.proofs.Common.{◌≡◌, ◌≤◌, length}
use Rattle.std.specs.Prelude.{vec_len, vec_capacity}
use Rattle.live_space.proofs.making.new_cores.Given as goal

abbrev pub invariant-cores : goal.invariant-cores
invariant-cores g l = record {
  count : vec_len l.cores ≡ l.core;
  room : l.fn.count ≤ vec_capacity l.cores;
}
