use Rattle.std.proofs.Common.{◌≡◌, ℕ, ◌/◌, ◌%◌, ◌<◌, ◌==◌, ◌||◌, ap, sym, ◌∙◌, Some, None, length, get_or, arith}
use Rattle.std.specs.Prelude.{option_and_then}
use Rattle.std.proofs.Math.ListN.{set, length-set}
use Rattle.std.proofs.lemmas.List.{set-get_or}
use Rattle.std.proofs.lemmas.Result.{IfOk-from_err}
use Rattle.mmu.specs.Tables.{in_table, with_last_table}
use Rattle.mmu.proofs.Empty.{read_there, read_now}
use Rattle.mmu.proofs.LastTable.{same_table, same_rest, on_any_err, made_rest, Below, one_more, none_more}
use Rattle.mmu.proofs.Valid.{on_ok, on_err}
use Rattle.mmu.proofs.level.Inner.install_at.Goals as goal

pub returns-in_ok-table-in-None-clause-there : goal.returns-in_ok-table-in-None-clause-there
returns-in_ok-table-in-None-clause-there g c =
    let P = g.C.Level.pages in
    let xs = c.args.self.now.tables.items in
    let ys = set xs (c.args.page / c.args.below) c.index_mut.result.now in
    let pos : 0 < P = g.met.C.Level.some_page in
    let below : c.args.below ≡ P = c.requires.below in
    let within : c.args.page / c.args.below < length ys = omega (arith, length-set xs (c.args.page / c.args.below) c.index_mut.result.now, c.requires.within) in
    let there = c.in_ok-table-in-None.ensures.there in
    ap (λ x. option_and_then (λ b. g.C.Level.entry_at b (c.args.page % P)) x)
    (read_there ys c.args.page c.args.below P (Some c.in_ok-table-in-None.table) below within)
    ∙ ap (λ k. g.C.Level.entry_at c.in_ok-table-in-None.table (c.args.page % k)) (sym below) ∙ there

pub returns-in_err-table-in-None-clause-err_last : goal.returns-in_err-table-in-None-clause-err_last
returns-in_err-table-in-None-clause-err_last g c = on_any_err c.from_residual.result (λ q same.
    let P = g.C.Level.pages in
    let items = c.args.self.now.tables.items in
    let below : c.args.below ≡ P = c.requires.below in
    let here = read_now items c.args.page c.args.below P c.index_mut.result.now below (omega (arith, c.requires.within)) c.index_mut.ensures.value in
    let there = ap (λ k. get_or items k None) (same_table P (P / 512) c.args.page q g.met.C.Level.whole same) ∙ here ∙ c.in-None.is in
    ap (option_and_then (λ b. g.C.Level.entry_at b (q % P))) there)

pub returns-in-Some-clause-err_last : goal.returns-in-Some-clause-err_last
returns-in-Some-clause-err_last g c = on_err c.install.result (λ none q same.
    let P = g.C.Level.pages in
    let items = c.args.self.now.tables.items in
    let below : c.args.below ≡ P = c.requires.below in
    let here = read_now items c.args.page c.args.below P c.index_mut.result.now below (omega (arith, c.requires.within)) c.index_mut.ensures.value in
    let there = ap (λ k. get_or items k None) (same_table P (P / 512) c.args.page q g.met.C.Level.whole same) ∙ here ∙ c.in-Some.is in
    let pos = g.met.C.Level.some_page in
    let rest : (q % P) / 512 ≡ (c.args.page % c.args.below) / 512 = same_rest P (P / 512) c.args.page q g.met.C.Level.whole same
    ∙ ap (λ k. (c.args.page % k) / 512) (sym below) in
    ap (option_and_then (λ b. g.C.Level.entry_at b (q % P))) there
    ∙ none (q % P) (omega arith) rest) c.install.ensures.err_last

pub returns-in_ok-table-in-None-clause-tables : goal.returns-in_ok-table-in-None-clause-tables
returns-in_ok-table-in-None-clause-tables g c =
    let P = g.C.Level.pages in
    let page = c.args.page in
    let xs = c.args.self.now.tables.items in
    let i = page / c.args.below in
    let table = c.in_ok-table-in-None.table in
    let has = λ (b : g.row.C.Denot) (k : ℕ). g.C.Level.has_table b k in
    let pos : 0 < P = g.met.C.Level.some_page in
    let below : c.args.below ≡ P = c.requires.below in
    let at : i ≡ page / P = ap (λ k. page / k) below in
    let within : i < length xs = omega (arith, c.requires.within) in
    let none : get_or xs i None ≡ None = ap (λ k. get_or xs k None) at
    ∙ read_now xs page c.args.below P c.index_mut.result.now below within c.index_mut.ensures.value
    ∙ c.in-None.is in
    let kept : set xs i c.index_mut.result.now ≡ xs = ap (set xs i) c.index_mut.ensures.value ∙ set-get_or xs i c.index_mut.result.now in
    λ q. ap (λ ys. Below has P (set ys i (Some table)) q) kept
    ∙ one_more has P xs (P / 512) page i (Some table) g.met.C.Level.whole pos at within
    (λ r lt. c.in_ok-table-in-None.ensures.tables r
    ∙ ap (λ k. with_last_table (page % k) (λ _. P == 512) r) below
    ∙ made_rest P (page % P) r lt (omega arith)
    ∙ ap (λ o. r / 512 == (page % P) / 512 || in_table (λ b. has b r) o) (sym none)) q

pub returns-in-Some-clause-tables : goal.returns-in-Some-clause-tables
returns-in-Some-clause-tables g c = on_ok c.install.result (λ more.
    let P = g.C.Level.pages in
    let page = c.args.page in
    let xs = c.args.self.now.tables.items in
    let i = page / c.args.below in
    let has = λ (b : g.row.C.Denot) (k : ℕ). g.C.Level.has_table b k in
    let pos : 0 < P = g.met.C.Level.some_page in
    let below : c.args.below ≡ P = c.requires.below in
    let at : i ≡ page / P = ap (λ k. page / k) below in
    let within : i < length xs = omega (arith, c.requires.within) in
    let there = ap (λ k. get_or xs k None) at
    ∙ read_now xs page c.args.below P c.index_mut.result.now below within c.index_mut.ensures.value
    ∙ c.in-Some.is in
    one_more has P xs (P / 512) page i (Some c.install.new.self) g.met.C.Level.whole pos at within
    (λ r lt. more r
    ∙ ap (λ k. with_last_table (page % k) (g.C.Level.has_table c.in-Some.table) r) below
    ∙ ap (λ o. r / 512 == (page % P) / 512 || in_table (λ b. has b r) o) (sym there))) c.install.ensures.tables

pub returns-in-Some-clause-err_tables : goal.returns-in-Some-clause-err_tables
returns-in-Some-clause-err_tables g c = on_err c.install.result (λ same.
    let P = g.C.Level.pages in
    let page = c.args.page in
    let xs = c.args.self.now.tables.items in
    let i = page / c.args.below in
    let has = λ (b : g.row.C.Denot) (k : ℕ). g.C.Level.has_table b k in
    let pos : 0 < P = g.met.C.Level.some_page in
    let below : c.args.below ≡ P = c.requires.below in
    let at : i ≡ page / P = ap (λ k. page / k) below in
    let within : i < length xs = omega (arith, c.requires.within) in
    let there = ap (λ k. get_or xs k None) at
    ∙ read_now xs page c.args.below P c.index_mut.result.now below within c.index_mut.ensures.value
    ∙ c.in-Some.is in
    none_more has P xs i (Some c.install.new.self) within
    (λ r. same r
    ∙ ap (in_table (λ b. has b r)) (sym there))) c.install.ensures.err_tables

pub returns-in_err-table-in-None-clause-there : goal.returns-in_err-table-in-None-clause-there
returns-in_err-table-in-None-clause-there g c = IfOk-from_err _ _ c.from_residual.ensures.0

pub returns-in_err-table-in-None-clause-tables : goal.returns-in_err-table-in-None-clause-tables
returns-in_err-table-in-None-clause-tables g c = IfOk-from_err _ _ c.from_residual.ensures.0
