use Rattle.slot_lock.proofs.Words.{rules, ◌≤◌, List, Option, length, ap, subst, arith, MutexGuard}
use Rattle.live_levels.specs.Slots.{SlotView}
use Rattle.live_tree.proofs.Losses.{LostSoFar, lost_all, lost_more}
use Rattle.live_tree.proofs.held.losses.lose_all.Goals as goal

pub guards-preserved : goal.guards-preserved
guards-preserved g c = lost_more c.args.range c.as_slice-guard-items.result.now c.guards.guard-index c.guard-item.result _ _ _ _ (omega arith)
    c.guard-item.is c.lose.ensures.alone c.lose.ensures.cores (c.lose.ensures.frames (search rules)) c.guards.invariant

pub returns : goal.returns
returns g c t first end side low high =
    let items = c.args.guards.now.items in
    let lost = c.guards.lost in
    let same = c.as_slice-guard-items.ensures in
    let all : length items ≤ c.guards.guard-index = omega (arith, ap length same) in
    lost_all c.args.range items c.guards.guard-index lost.cores lost.frames.items first end all side low high
    (subst (λ (l : List (Option (MutexGuard SlotView))). LostSoFar c.args.range l c.guards.guard-index lost.cores lost.frames.items) same c.guards.invariant)
