use Rattle.machine_model.proofs.Words.{Some, put, translation_of}
use Rattle.mmu.proofs.Valid.{on_ok, on_err}
use Rattle.core_steps.proofs.engine.Each.{table_set, none_set}
use Rattle.core_steps.proofs.engine.cores.Cores.install.Goals as goal

pub returns-clause-ok : goal.returns-clause-ok
returns-clause-ok g c =
    on_ok c.install.result (λ there.
    table_set g.H.Hardware.table g.H.Hardware.tlb c.args.self.now.cpus.items c.args.self.now.inboxes c.index.result c.args.core
    c.install.new.self c.index_mut.result.now c.requires.here c.index.ensures.value c.index_mut.ensures.value
    (λ t. put t c.args.page (Some (translation_of c.args.frame c.args.prot))) there c.install.ensures.tlb) c.install.ensures.ok

pub returns-clause-err : goal.returns-clause-err
returns-clause-err g c =
    on_err c.install.result (λ same.
    none_set g.H.Hardware.table g.H.Hardware.tlb c.args.self.now.cpus.items c.args.self.now.inboxes c.index.result c.args.core
    c.install.new.self c.index_mut.result.now c.requires.here c.index.ensures.value c.index_mut.ensures.value
    same c.install.ensures.tlb) c.install.ensures.err
