use Rattle.std.proofs.Common.{arith, ◌∙◌, ap, Some}
use Rattle.std.proofs.Math.Path.{fun_ext}
use Rattle.mmu.proofs.LastTable.{none_on_pages}
use Rattle.mmu.proofs.Valid.{put_pages, keep_pages, on_ok, on_err}
use Rattle.mmu.proofs.cpu.CpuHardware.install.Goals as goal

pub returns-clause-ok : goal.returns-clause-ok
returns-clause-ok g c = on_ok c.install.result (λ there. put_pages 68719476736 _ _ c.args.page _ (omega arith) c.requires.page
    (there ∙ ap Some c.new-translation.ensures) c.install.ensures.others) c.install.ensures.there

pub returns-clause-err : goal.returns-clause-err
returns-clause-err g c = on_err c.install.result
    (λ here. keep_pages 68719476736 _ _ c.args.page (omega arith) here c.install.ensures.others) c.install.ensures.err

pub returns-clause-err_last : goal.returns-clause-err_last
returns-clause-err_last g c = on_err c.install.result (none_on_pages 68719476736 _ c.args.page (omega arith)) c.install.ensures.err_last

pub returns-clause-tables : goal.returns-clause-tables
returns-clause-tables g c = on_ok c.install.result fun_ext c.install.ensures.tables

pub returns-clause-err_tables : goal.returns-clause-err_tables
returns-clause-err_tables g c = on_err c.install.result fun_ext c.install.ensures.err_tables
