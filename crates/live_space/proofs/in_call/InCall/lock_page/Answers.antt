use Rattle.std.proofs.Common.{◌≤◌, rules, ap, ◌∙◌, arith}
use Rattle.live_tree.specs.Held.{HeldView}
use Rattle.live_space.proofs.in_call.InCall.lock_page.Goals as goal

pub settle-requires : goal.settle-requires
settle-requires g c =
    let begins = ap (λ (h : HeldView). h.first) c.hold_from.ensures.held in
    let ends = ap (λ (h : HeldView). h.end) c.hold_from.ensures.held in
    let upto = c.lock_all.ensures.end (search rules) in
    let within = c.lock_all.ensures.within (omega (arith, ends)) in
    (omega arith, (c.requires, (c.lock_all.ensures.first ∙ begins, omega (arith, upto, within))))
