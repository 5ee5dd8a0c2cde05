use Rattle.machine_model.proofs.Words.{◌≡◌, ◌≤◌, ℕ, None, [], vec_len, vec_capacity}
use Rattle.core_steps.specs.Cores.{of_each}
use Rattle.core_steps.proofs.engine.cores.Cores.new.Given as goal

-- the cores so far have no translations, and there is room for the others
abbrev pub invariant-cores : goal.invariant-cores
invariant-cores g l = record {
  count : vec_len l.cpus ≡ l._core;
  room : l.cores ≤ vec_capacity l.cpus;
  tables : (c : ℕ) → of_each g.H.Hardware.table (λ p. None) l.cpus.items c ≡ (λ p. None);
  tlbs : (c : ℕ) → of_each g.H.Hardware.tlb [] l.cpus.items c ≡ [];
}
