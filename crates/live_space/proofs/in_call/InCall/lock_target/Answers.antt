use Rattle.std.proofs.Common.{◌≤◌, rules, ap, ◌∙◌, arith}
use Rattle.vm_base.specs.declared.page.PageRange.{PageRange}
use Rattle.slot_lock.specs.declared.plan.Goal.TheVariants as To
use Rattle.vm_calls.proofs.Targets.{goal-pages}
use Rattle.live_tree.specs.Held.{HeldView}
use Rattle.live_space.proofs.Ended.{some_ends_map}
use Rattle.live_space.proofs.in_call.InCall.lock_target.Goals as goal

pub returns-clause-made : goal.returns-clause-made
returns-clause-made g c =
    let some = (goal-pages (To.Place c.args.place c.args.target) c.requires).some in
    let low = ap (λ (r : PageRange). r.first) c.range-range.ensures in
    let high = ap (λ (r : PageRange). r.end) c.range-range.ensures in
    let begins = ap (λ (h : HeldView). h.first) c.hold_from.ensures.held in
    let ends = ap (λ (h : HeldView). h.end) c.hold_from.ensures.held in
    let upto = c.lock_all.ensures.end (search rules) in
    let within = c.lock_all.ensures.within (omega (arith, ends, low, high, some)) in
    some_ends_map _ _ c.find.result (λ reply h. (
      c.lock_all.new.self.held,
      (c.lock_all.ensures.first ∙ (begins ∙ low), omega (arith, upto, within, high)),
      h,
    )) c.find.ensures.made
