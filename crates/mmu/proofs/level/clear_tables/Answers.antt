use Rattle.std.proofs.Common.{refl, ℕ, ◌+◌, ◌*◌, ◌/◌, ◌%◌, ◌<◌, ◌&&◌, nat_lt, arith, ap, sym, ◌∙◌, Option, None, cond, length, get_or}
use Rattle.std.specs.Prelude.{option_and_then}
use Rattle.std.proofs.Math.ListN.{length-set}
use Rattle.std.proofs.lemmas.List.{get_or_default, get_or_past}
use Rattle.std.specs.Int.{div_ceil}
use Rattle.vm_base.specs.Functions.{has}
use Rattle.mmu.specs.Tables.{in_table}
use Rattle.mmu.proofs.LastTable.{none_more}
use Rattle.mmu.proofs.Clearing.{cleared_next, none_before, all_cleared}
use Rattle.mmu.proofs.level.clear_tables.Goals as goal

pub tables-init : goal.tables-init
tables-init g c =
    let P = g.C.Level.pages in
    let r = c.args.range in
    record {
      len = refl;
      entries = λ q. sym (ap (λ b. cond b None (option_and_then (λ b. g.C.Level.entry_at b (q % P)) (get_or c.args.tables.now.items (q / P) None)))
          (ap (λ k. has r q && nat_lt (q / P) (r.first / k)) c.requires.below ∙ none_before r P q g.met.C.Level.some_page));
      tables = λ q. refl;
    }

pub tables-preserved : goal.tables-preserved
tables-preserved g c =
    let P = g.C.Level.pages in
    let r = c.args.range in
    let i = c.tables.i in
    let items = c.tables.tables.items in
    let at = λ (o : Option g.row.C.Denot) (k : ℕ). option_and_then (λ b. g.C.Level.entry_at b k) o in
    let in' : i < length items = omega (arith, c.tables.invariant.len, c.tables-test.true, c.min-end.ensures) in
    record {
      len = omega (arith, length-set items i c.clear_table.new.table, c.tables.invariant.len);
      entries = cleared_next at None c.args.tables.now.items None P (has r) items i (has c.part.result) c.clear_table.new.table
          g.met.C.Level.some_page in' c.tables.invariant.entries
          (λ k h. c.clear_table.ensures.entries k h ∙ ap (λ o. cond (has c.part.result k) None (at o k)) (c.index_mut.ensures.value
          ∙ get_or_default items i c.index_mut.result.now None in'))
          (λ k h. c.part.ensures.pages k (rw c.requires.below h) ∙ ap (λ b. has r (i * b + k)) c.requires.below);
      tables = λ q. none_more (λ (b : g.row.C.Denot) (k : ℕ). g.C.Level.has_table b k) P items i c.clear_table.new.table in'
          (λ k. c.clear_table.ensures.tables k ∙ ap (in_table (λ (b : g.row.C.Denot). g.C.Level.has_table b k))
          (c.index_mut.ensures.value ∙ get_or_default items i c.index_mut.result.now None in')) q ∙ c.tables.invariant.tables q;
    }

pub returns-clause-entries : goal.returns-clause-entries
returns-clause-entries g c =
    let P = g.C.Level.pages in
    let r = c.args.range in
    let i = c.tables.i in
    let xs = c.args.tables.now.items in
    λ q. c.tables.invariant.entries q
    ∙ all_cleared None (option_and_then (λ b. g.C.Level.entry_at b (q % P)) (get_or xs (q / P) None)) r P q c.div_ceil-needed.result i
    g.met.C.Level.some_page (c.div_ceil-needed.ensures ∙ ap (div_ceil r.end) c.requires.below)
    (λ few past. ap (option_and_then (λ b. g.C.Level.entry_at b (q % P)))
    (get_or_past xs (q / P) None (omega (arith, few, past, c.tables-test.false, c.min-end.ensures))))
