use Rattle.machine_model.proofs.Words.{tlb_walked, tlb_at}
use Rattle.core_steps.proofs.engine.Each.{tlb_set}
use Rattle.core_steps.proofs.engine.cores.Cores.walk.Goals as goal

pub returns-clause-after : goal.returns-clause-after
returns-clause-after g c =
    tlb_set g.H.Hardware.table g.H.Hardware.tlb c.args.self.now.cpus.items c.args.self.now.inboxes c.index.result c.args.core
    c.walk.new.self c.index_mut.result.now c.requires.here c.index.ensures.value c.index_mut.ensures.value
    (λ t l. tlb_walked (tlb_at l c.args.page) (t c.args.page) c.args.page l) c.walk.ensures.table c.walk.ensures.tlb
