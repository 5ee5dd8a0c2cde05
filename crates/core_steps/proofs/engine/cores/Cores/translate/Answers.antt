use Rattle.machine_model.proofs.Words.{ap, ◌∙◌, translated, tlb_at}
use Rattle.mmu.specs.Tables.{tlb_after}
use Rattle.core_steps.proofs.engine.Each.{tlb_set}
use Rattle.core_steps.proofs.engine.cores.Cores.translate.Goals as goal

pub returns-clause-after : goal.returns-clause-after
returns-clause-after g c =
    tlb_set g.H.Hardware.table g.H.Hardware.tlb c.args.self.now.cpus.items c.args.self.now.inboxes c.index.result c.args.core
    c.translate.new.self c.index_mut.result.now c.requires.here c.index.ensures.value c.index_mut.ensures.value
    (λ t l. tlb_after (translated (tlb_at l c.args.touch.page) (t c.args.touch.page) c.args.touch.access) c.args.touch.page (t c.args.touch.page) l)
    c.translate.ensures.table
    (c.translate.ensures.tlb ∙ ap (λ r. tlb_after r c.args.touch.page (g.H.Hardware.table c.index_mut.result.now c.args.touch.page)
    (g.H.Hardware.tlb c.index_mut.result.now)) c.translate.ensures.value)
