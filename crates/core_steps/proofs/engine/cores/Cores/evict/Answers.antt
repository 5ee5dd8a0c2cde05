use Rattle.core_steps.proofs.engine.Each.{evict_set}
use Rattle.core_steps.proofs.engine.cores.Cores.evict.Goals as goal

pub returns-clause-after : goal.returns-clause-after
returns-clause-after g c =
    evict_set g.H.Hardware.table g.H.Hardware.tlb c.args.self.now.cpus.items c.args.self.now.inboxes c.index.result c.args.core
    c.evict.new.self c.index_mut.result.now c.requires.here c.index.ensures.value c.index_mut.ensures.value
    c.args.page c.evict.result c.evict.ensures.table c.evict.ensures.tlb
