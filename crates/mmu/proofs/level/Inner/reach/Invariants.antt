use Rattle.std.proofs.Common.{◌≡◌, ◌≤◌, ◌+◌, ℕ, get_or, vec_len, None}
use Rattle.std.specs.Vec.{vec_capacity}
use Rattle.mmu.proofs.level.Inner.reach.Given as goal

abbrev pub invariant-places : goal.invariant-places
invariant-places g l = record {
  same : (k : ℕ) → get_or l.self.tables.items k None ≡ get_or l.fn.self.tables.items k None;
  len : vec_len l.self.tables ≡ vec_len l.fn.self.tables + l.counter;
  room : l.fn.place + 1 ≤ vec_capacity l.self.tables;
}
