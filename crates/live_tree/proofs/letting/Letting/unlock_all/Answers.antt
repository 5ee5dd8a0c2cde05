use Rattle.std.proofs.Common.{rules, ◌<◌, arith, length, suc, refl, ap, ◌∙◌}
use Rattle.std.proofs.Common.{length-drop}
use Rattle.live_tree.specs.Letting.{LettingView}
use Rattle.live_tree.proofs.letting.Letting.unlock_all.Goals as goal

pub slots-init : goal.slots-init
slots-init g c = let count = c.len-count.ensures in (0, omega (arith, count), refl)

pub slots-preserved : goal.slots-preserved
slots-preserved g c =
    let before = c.slots.self.slots in
    let some : 0 < length before = search rules in
    let left = ap (λ (v : LettingView). length v.slots) c.note_first-ticket.ensures.first ∙ length-drop 1 before in
    let sum = c.slots.invariant.1 in (
      suc c.slots.invariant.0,
      omega (arith, sum, some, left),
      (
        c.slots.stepper,
        c.slots.invariant.2,
        (c.note_first-ticket.result, c.note_first-ticket.ensures.noted),
      ),
    )
