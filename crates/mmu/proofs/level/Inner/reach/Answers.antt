use Rattle.std.proofs.Common.{◌/◌, ◌%◌, None, ap, get_or}
use Rattle.std.specs.Prelude.{option_and_then}
use Rattle.mmu.specs.Tables.{in_table}
use Rattle.mmu.proofs.level.Inner.reach.Goals as goal

pub returns-then-is_err-clause-entries : goal.returns-then-is_err-clause-entries
returns-then-is_err-clause-entries g c = λ q.
    ap (λ xs. option_and_then (λ b. g.C.Level.entry_at b (q % g.C.Level.pages)) (get_or xs (q / g.C.Level.pages) None)) c.reserve.ensures.items

pub returns-then-is_err-clause-tables : goal.returns-then-is_err-clause-tables
returns-then-is_err-clause-tables g c = λ q.
    ap (λ xs. in_table (λ b. g.C.Level.has_table b (q % g.C.Level.pages)) (get_or xs (q / g.C.Level.pages) None)) c.reserve.ensures.items

pub returns-clause-entries : goal.returns-clause-entries
returns-clause-entries g c = λ q.
    ap (option_and_then (λ b. g.C.Level.entry_at b (q % g.C.Level.pages))) (c.places.invariant.same (q / g.C.Level.pages))

pub returns-clause-tables : goal.returns-clause-tables
returns-clause-tables g c = λ q.
    ap (in_table (λ b. g.C.Level.has_table b (q % g.C.Level.pages))) (c.places.invariant.same (q / g.C.Level.pages))
