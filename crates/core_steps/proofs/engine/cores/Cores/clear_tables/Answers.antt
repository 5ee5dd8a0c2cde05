use Rattle.machine_model.proofs.Words.{None, over, has}
use Rattle.core_steps.proofs.engine.Each.{table_set}
use Rattle.core_steps.proofs.engine.cores.Cores.clear_tables.Goals as goal

pub returns-clause-after : goal.returns-clause-after
returns-clause-after g c =
    table_set g.H.Hardware.table g.H.Hardware.tlb c.args.self.now.cpus.items c.args.self.now.inboxes c.index.result c.args.core
    c.clear_tables.new.self c.index_mut.result.now c.requires.here c.index.ensures.value c.index_mut.ensures.value
    (λ t. over t (has c.args.range) None) c.clear_tables.ensures.table c.clear_tables.ensures.tlb
