use Rattle.std.proofs.Common.{◌≡◌, ℕ, ◌/◌, ◌%◌, ◌&&◌, nat_lt, cond, None, get_or, vec_len}
use Rattle.std.specs.Prelude.{option_and_then}
use Rattle.vm_base.specs.Functions.{has}
use Rattle.mmu.specs.Tables.{in_table}
use Rattle.mmu.proofs.level.clear_tables.Given as goal

abbrev pub invariant-tables : goal.invariant-tables
invariant-tables g l = record {
  len : vec_len l.tables ≡ vec_len l.fn.tables;
  entries : (q : ℕ) → option_and_then (λ b. g.C.Level.entry_at b (q % g.C.Level.pages)) (get_or l.tables.items (q / g.C.Level.pages) None)
      ≡ cond (has l.fn.range q && nat_lt (q / g.C.Level.pages) l.i) None
      (option_and_then (λ b. g.C.Level.entry_at b (q % g.C.Level.pages)) (get_or l.fn.tables.items (q / g.C.Level.pages) None));
  tables : (q : ℕ) → in_table (λ b. g.C.Level.has_table b (q % g.C.Level.pages)) (get_or l.tables.items (q / g.C.Level.pages) None)
      ≡ in_table (λ b. g.C.Level.has_table b (q % g.C.Level.pages)) (get_or l.fn.tables.items (q / g.C.Level.pages) None);
}
