use Rattle.slot_lock.proofs.Words.{◌<◌, List, map, length, arith, ap, sym, ◌∙◌, All, IsSome, All-set}
use Rattle.slot_lock.specs.Plan.{range_of}
use Rattle.live_levels.specs.Slots.{SlotView}
use Rattle.live_tree.specs.Guards.{slot_of}
use Rattle.live_tree.specs.Held.{committed, HasRoom}
use Rattle.live_tree.proofs.Along.{one_more, holds_still}
use Rattle.live_tree.proofs.held.commit_all.Goals as goal

pub commit_at-requires-clause-room : goal.commit_at-requires-clause-room
commit_at-requires-clause-room g c =
    let P : SlotView → Type 0 = HasRoom (range_of c.args.change) in
    let lt : c.guards.guard-index < length c.guards.guard-items = omega arith in
    let old : List SlotView = map slot_of c.as_mut_slice-guard-items.result.now in
    let all : All P old = rw c.as_mut_slice-guard-items.ensures.value c.requires.room in
    rw (← c.guard-item.is) (holds_still slot_of (committed c.args.ticket c.args.change) P c.guards.guard-items old c.guards.guard-index
    c.guard-item.result c.guards.invariant.slots lt c.guard-item.is all)

pub guards-preserved : goal.guards-preserved
guards-preserved g c =
    let h = committed c.args.ticket c.args.change in
    let lt : c.guards.guard-index < length c.guards.guard-items = omega arith in
    record {
      slots = one_more slot_of h c.guards.guard-items (map slot_of c.as_mut_slice-guard-items.result.now) c.guards.guard-index
          c.guard-item.result c.commit_at.new.guard
          c.guards.invariant.slots lt c.guard-item.is (c.commit_at.ensures.slot ∙ ap (λ z. h (slot_of z)) (sym c.guard-item.is));
      some = All-set IsSome c.guards.guard-items c.guards.guard-index c.commit_at.new.guard c.commit_at.ensures.some c.guards.invariant.some;
    }
