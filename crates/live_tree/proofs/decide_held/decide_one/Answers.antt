use Rattle.std.proofs.Common.{◌≡◌, ap, sym, ◌∙◌}
use Rattle.vm_base.specs.declared.page.PageRange.{PageRange}
use Rattle.slot_lock.specs.Plan.{range_of}
use Rattle.live_tree.specs.Shown.{shown}
use Rattle.live_tree.proofs.Decided.{loses_one}
use Rattle.live_tree.proofs.decide_held.decide_one.Goals as goal

pub returns-in-Ok : goal.returns-in-Ok
returns-in-Ok g c =
    let s = shown c.args.held.now.slots in
    let is : c.page-info.result ≡ s.info (range_of c.args.change).first
    = c.page-info.ensures ∙ ap (λ (r : PageRange). s.info r.first) c.range.ensures in
    (c.in-Ok.ensures.made s (sym is), loses_one s c.args.change c.page-info.result _ c.requires is c.in_ok-frames.ensures)
