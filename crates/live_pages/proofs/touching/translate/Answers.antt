use Rattle.std.proofs.Common.{◌≡◌, Some, ap, subst, sym, ◌∙◌}
use Rattle.mmu.specs.Tables.{tlb_after, translated}
use Rattle.mmu.specs.Tlb.{tlb_at}
use Rattle.machine_model.specs.Translating.{frame_reached}
use Rattle.live_pages.proofs.Reaching.{reached_by, reaches_hit}
use Rattle.live_pages.proofs.touching.translate.Goals as goal

pub returns-in-Hit-2-clause-reaches : goal.returns-in-Hit-2-clause-reaches
returns-in-Hit-2-clause-reaches g c =
    let page = c.args.touch.page in
    let entry = g.H.Hardware.table c.args.cpu.now page in
    let es = g.H.Hardware.tlb c.args.cpu.now in
    let reached = reached_by c.translate.result (translated (tlb_at es page) entry c.args.touch.access) c.in-Hit.number c.translate.ensures.value c.in-Hit.is in
    subst (λ t. frame_reached (translated (tlb_at (g.H.Hardware.tlb c.translate.new.self) page) (t page) c.args.touch.access) ≡ Some c.in-Hit.number)
    (sym c.translate.ensures.table)
    (reaches_hit entry es page c.in-Hit.number c.args.touch.access (g.H.Hardware.tlb c.translate.new.self) reached
    (c.translate.ensures.tlb ∙ ap (λ r. tlb_after r page entry es) c.translate.ensures.value))
