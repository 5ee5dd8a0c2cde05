use Rattle.slot_lock.proofs.Words.{rules, ◌≡◌, ◌+◌, ◌≤◌, List, Option, Some, map, length, ap, subst, sym, arith, MutexGuard}
use Rattle.slot_lock.specs.Adding.{with_slot}
use Rattle.slot_lock.specs.ListedSlots.{slots_of}
use Rattle.live_levels.specs.Slots.{SlotView}
use Rattle.live_tree.specs.Guards.{slot_of}
use Rattle.live_tree.specs.Held.{SideBySide}
use Rattle.live_tree.proofs.Lending.{LentSoFar, lent_all, lent_more}
use Rattle.live_tree.proofs.held.lend.lend_all.Goals as goal

pub guards-preserved : goal.guards-preserved
guards-preserved g c first last side =
    let s = slot_of c.guard-item.result in
    let before = slots_of c.guards.lent.slots.items in
    let after = slots_of c.lend.new.lent.slots.items in
    let added : after ≡ with_slot before s.first (s.first + s.count) (Some c.args.core) s.content = search rules in
    lent_more c.args.core first last c.as_slice-guard-items.result.now c.guards.guard-index c.guard-item.result before after side
    (omega arith) c.guard-item.is (c.guards.invariant first last side) added

pub returns : goal.returns
returns g c t first end side =
    let items = c.args.guards.now.items in
    let lent = slots_of c.guards.lent.slots.items in
    let same = c.as_slice-guard-items.ensures in
    let so_far = c.guards.invariant first end (subst (λ (l : List (Option (MutexGuard SlotView))). SideBySide first end (map slot_of l)) (sym same) side) in
    let all : length items ≤ c.guards.guard-index = omega (arith, ap length same) in
    lent_all c.args.core first end items c.guards.guard-index lent all side
    (subst (λ (l : List (Option (MutexGuard SlotView))). LentSoFar c.args.core first l c.guards.guard-index lent) same so_far)
