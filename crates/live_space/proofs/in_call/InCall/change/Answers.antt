use Rattle.std.proofs.Common.{◌≤◌, rules, ap, ◌∙◌, arith, subst}
use Rattle.vm_base.specs.declared.page.PageRange.{PageRange}
use Rattle.vm_base.specs.Plain.{File}
use Rattle.frames.specs.Files.{files_of}
use Rattle.slot_lock.proofs.Changes.{sound_pages}
use Rattle.live_tree.specs.Held.{HeldView}
use Rattle.live_space.proofs.Ended.{changes_answers}
use Rattle.live_space.proofs.in_call.InCall.change.Goals as goal

pub returns-in-Some-clause-answers : goal.returns-in-Some-clause-answers
returns-in-Some-clause-answers g c = changes_answers _ _ _ _ _ _ c.in-Some.ensures.made

pub returns-in-Some-clause-made : goal.returns-in-Some-clause-made
returns-in-Some-clause-made g c =
    let some = (sound_pages c.args.change c.requires).some in
    let low = ap (λ (r : PageRange). r.first) c.range-range.ensures in
    let high = ap (λ (r : PageRange). r.end) c.range-range.ensures in
    let begins = ap (λ (h : HeldView). h.first) c.hold_from.ensures.held in
    let ends = ap (λ (h : HeldView). h.end) c.hold_from.ensures.held in
    let upto = c.lock_all.ensures.end (search rules) in
    let within = c.lock_all.ensures.within (omega (arith, ends, low, high, some)) in (
      c.lock_all.new.self.held,
      (c.lock_all.ensures.first ∙ (begins ∙ low), omega (arith, upto, within, high)),
      search rules,
    )
