use Rattle.std.proofs.Common.{◌≡◌, ◌<◌, ◌≤◌, ℕ, [], length}
use Rattle.std.specs.Prelude.{vec_capacity}
use Rattle.mmu.specs.Inboxes.{inbox, owner}
use Rattle.mmu.proofs.inboxes.Inboxes.new.Given as goal

-- the inboxes so far are empty and at their cores' numbers, and there is room for the others
abbrev pub invariant-cores : goal.invariant-cores
invariant-cores g l = record {
  count : length l.inboxes.items ≡ l.core;
  room : l.cores ≤ vec_capacity l.inboxes;
  empty : (d : ℕ) → inbox l.inboxes.items d ≡ [];
  own : (d : ℕ) → d < l.core → owner l.inboxes.items d ≡ d;
}
