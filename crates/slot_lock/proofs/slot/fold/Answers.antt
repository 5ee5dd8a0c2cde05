use Rattle.std.proofs.Common.{◌+◌}
use Rattle.slot_lock.specs.SlotList.{get_slot, IsJoint}
use Rattle.slot_lock.proofs.Places.{after_first}
use Rattle.slot_lock.proofs.Joins.{joined-IsSlotList, slots_of-joined, joint-CanJoin, CanJoin-joint}
use Rattle.slot_lock.proofs.Facts.{two}
use Rattle.slot_lock.proofs.slot.fold.Goals as goal

pub returns-clause-list : goal.returns-clause-list
returns-clause-list g c =
    let at = rw c.deref.ensures.value at c.place-i.ensures in
    let joint : IsJoint c.args.slots.now.items c.place-i.result = rw c.deref-2.ensures.value at (c.can_join.ensures.0 c.if-not-can_join.false) in
    rw c.remove.ensures.items
    (joined-IsSlotList _ c.requires.list _ (record { after_first = after_first _ c.requires.list _ _ at c.requires.page.0; joint = joint }))

pub returns-clause-joined : goal.returns-clause-joined
returns-clause-joined g c = λ _.
    let at = rw c.deref.ensures.value at c.place-i.ensures in
    let joint : IsJoint c.args.slots.now.items c.place-i.result = rw c.deref-2.ensures.value at (c.can_join.ensures.0 c.if-not-can_join.false) in
    record {
      at = (get_slot c.args.slots.now.items (c.place-i.result + 1)).start;
      could = joint-CanJoin _ c.requires.list _ _ at joint;
      now = rw c.remove.ensures.items
          (slots_of-joined _ c.requires.list _ (record {
            after_first = after_first _ c.requires.list _ _ at c.requires.page.0;
            joint = joint;
          }));
    }

pub returns-then-not-can_join-clause-only : goal.returns-then-not-can_join-clause-only
returns-then-not-can_join-clause-only g c = λ _ end can.
    let at = rw c.deref.ensures.value at c.place-i.ensures in
    let joint = CanJoin-joint _ c.requires.list _ _ end c.requires.page.1 at can in
    let is = c.can_join.ensures.1 (rw c.deref-2.ensures.value joint) in
    two _ c.if-not-can_join.true is
