use Rattle.std.proofs.Common.{◌≡◌, ◌≤◌, ◌/◌, ◌%◌, ap, ◌∙◌, None, length, get_or, arith}
use Rattle.std.specs.Prelude.{option_and_then}
use Rattle.std.proofs.lemmas.Result.{IfOk-from_err}
use Rattle.mmu.proofs.Empty.{read_past}
use Rattle.mmu.proofs.LastTable.{same_table, on_any_err}
use Rattle.mmu.proofs.level.InnerLevel.install.Goals as goal

pub returns-in_err-reach-clause-err_last : goal.returns-in_err-reach-clause-err_last
returns-in_err-reach-clause-err_last g c = on_any_err c.from_residual.result (λ q lt same.
    let P = g.C.Level.pages in
    let items = c.args.self.now.tables.items in
    let below : c.args.width / 512 ≡ P = omega (arith, c.requires.width) in
    let past : length items ≤ c.args.page / (c.args.width / 512) = omega (arith, c.in_err-reach.ensures.err) in
    let there = same_table P (P / 512) c.args.page q g.met.C.Level.whole same in
    ap (λ k. option_and_then (λ b. g.C.Level.entry_at b (q % P)) (get_or items k None)) there
    ∙ ap (option_and_then (λ b. g.C.Level.entry_at b (q % P))) (read_past items c.args.page (c.args.width / 512) P below past))

pub returns-in_err-reach-clause-there : goal.returns-in_err-reach-clause-there
returns-in_err-reach-clause-there g c = IfOk-from_err _ _ c.from_residual.ensures.0

pub returns-in_err-reach-clause-tables : goal.returns-in_err-reach-clause-tables
returns-in_err-reach-clause-tables g c = IfOk-from_err _ _ c.from_residual.ensures.0

pub returns-in_err-reach-clause-err : goal.returns-in_err-reach-clause-err
returns-in_err-reach-clause-err g c = on_any_err c.from_residual.result (c.reach.ensures.entries c.args.page)

pub returns-in_err-reach-clause-others : goal.returns-in_err-reach-clause-others
returns-in_err-reach-clause-others g c = λ q lt ne. c.reach.ensures.entries q

pub returns-in_err-reach-clause-err_tables : goal.returns-in_err-reach-clause-err_tables
returns-in_err-reach-clause-err_tables g c = on_any_err c.from_residual.result (λ q. c.reach.ensures.tables q)
