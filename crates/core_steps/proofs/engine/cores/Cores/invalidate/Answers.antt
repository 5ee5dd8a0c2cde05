use Rattle.machine_model.proofs.Words.{has, tlb_without}
use Rattle.core_steps.proofs.engine.Each.{tlb_set}
use Rattle.core_steps.proofs.engine.cores.Cores.invalidate.Goals as goal

pub returns-clause-after : goal.returns-clause-after
returns-clause-after g c =
    tlb_set g.H.Hardware.table g.H.Hardware.tlb c.args.self.now.cpus.items c.args.self.now.inboxes c.index.result c.args.core
    c.invalidate.new.self c.index_mut.result.now c.requires c.index.ensures.value c.index_mut.ensures.value
    (λ t l. tlb_without (has c.args.range) l) c.invalidate.ensures.table c.invalidate.ensures.tlb
