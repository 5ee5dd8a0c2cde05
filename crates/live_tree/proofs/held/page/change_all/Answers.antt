use Rattle.slot_lock.proofs.Words.{◌<◌, List, map, length, arith, ap, sym, ◌∙◌, All, IsSome, All-set}
use Rattle.live_levels.specs.Replay.{dated}
use Rattle.live_levels.specs.Slots.{SlotView, changed}
use Rattle.live_tree.specs.Guards.{slot_of}
use Rattle.live_tree.specs.Held.{CanTake}
use Rattle.live_tree.proofs.Along.{one_more, holds_still}
use Rattle.live_tree.proofs.held.page.change_all.Goals as goal

pub change_at-requires-clause-each : goal.change_at-requires-clause-each
change_at-requires-clause-each g c =
    let P : SlotView → Type 0 = CanTake c.args.act.now in
    let lt : c.guards.guard-index < length c.guards.guard-items = omega arith in
    let old : List SlotView = map slot_of c.as_mut_slice-guard-items.result.now in
    let all : All P old = rw c.as_mut_slice-guard-items.ensures.value c.requires.each in
    rw (← c.guard-item.is) (holds_still slot_of (λ s. changed s (dated c.args.ticket c.args.act.now)) P c.guards.guard-items old c.guards.guard-index
    c.guard-item.result c.guards.invariant.slots lt c.guard-item.is all)

pub guards-preserved : goal.guards-preserved
guards-preserved g c =
    let h : SlotView → SlotView = λ s. changed s (dated c.args.ticket c.args.act.now) in
    let lt : c.guards.guard-index < length c.guards.guard-items = omega arith in
    record {
      slots = one_more slot_of h c.guards.guard-items (map slot_of c.as_mut_slice-guard-items.result.now) c.guards.guard-index
          c.guard-item.result c.change_at.new.guard
          c.guards.invariant.slots lt c.guard-item.is (c.change_at.ensures.slot ∙ ap (λ z. h (slot_of z)) (sym c.guard-item.is));
      some = All-set IsSome c.guards.guard-items c.guards.guard-index c.change_at.new.guard c.change_at.ensures.some c.guards.invariant.some;
    }
