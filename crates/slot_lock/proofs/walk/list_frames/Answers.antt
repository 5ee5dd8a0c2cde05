use Rattle.slot_lock.proofs.Words.{arith, ◌+◌, ◌<◌, ◌++◌, ◌∷◌, [], sym, ◌∙◌, ap, subst, frame_of, get_or_default}
use Rattle.slot_lock.specs.declared.slot.Slot.{Slot}
use Rattle.slot_lock.specs.SlotList.{get_slot, empty_slot}
use Rattle.slot_lock.proofs.Walks.{walk_more}
use Rattle.slot_lock.proofs.Listing.{ListsTo, list_none, list_one, is_one}
use Rattle.slot_lock.proofs.walk.list_frames.Goals.{in-Some+else-is_full, in_default}
use Rattle.slot_lock.proofs.walk.list_frames.Goals as goal

pub bounds-slots-i : goal.bounds-slots-i
bounds-slots-i c = let within = c.slots.invariant.walk.within in omega (arith, within)

pub bounds-slots-i-in-slots : goal.bounds-slots-i-in-slots
bounds-slots-i-in-slots c = let within = c.slots.invariant.walk.within in omega (arith, within)

pub bounds-slots-i-in-slots-2 : goal.bounds-slots-i-in-slots-2
bounds-slots-i-in-slots-2 c = let within = c.slots.invariant.walk.within in omega (arith, within)

pub bounds-slots-i-in-slots-3 : goal.bounds-slots-i-in-slots-3
bounds-slots-i-in-slots-3 c = let within = c.slots.invariant.walk.within in omega (arith, within)

pub bounds-slots-i-in-Some : goal.bounds-slots-i-in-Some
bounds-slots-i-in-Some c = let within = c.slots.invariant.walk.within in omega (arith, within)

pub bounds-slots-i-in-Some-2 : goal.bounds-slots-i-in-Some-2
bounds-slots-i-in-Some-2 c = let within = c.slots.invariant.walk.within in omega (arith, within)

pub returns-then-is_full-clause-high : goal.returns-then-is_full-clause-high
returns-then-is_full-clause-high c =
    let here = get_or_default c.args.slots.now c.slots.i c.index-slots-i.result empty_slot c.slots.invariant.walk.within in
    let here_too = get_or_default c.args.slots.now c.slots.i c.index-slots-i-in-Some.result empty_slot c.slots.invariant.walk.within in
    let below : (get_slot c.args.slots.now c.slots.i).start < c.args.end = rw here at c.slots-test.true in
    rw here_too (omega (arith, below))

pub slots-smaller : goal.slots-smaller
slots-smaller c = let within = c.slots.invariant.walk.within in omega (arith, within)

pub slots-preserved : goal.slots-preserved
slots-preserved c =
    let h = c.slots.invariant in
    let here = get_or_default c.args.slots.now c.slots.i c.index-slots-i.result empty_slot h.walk.within in
    let below : (get_slot c.args.slots.now c.slots.i).start < c.args.end = rw here at c.slots-test.true in
    let more = walk_more _ c.requires.list _ _ _ h.walk below c.requires.end in
    let here_too = get_or_default c.args.slots.now c.slots.i c.index-slots-i-in-slots.result empty_slot h.walk.within in
    let found = c.frame_of.ensures ∙ ap (λ (r : Slot). frame_of r.info) here_too in
    elim c.match-frame_of.branch as (λ _. ListsTo c.args.slots.now c.args.from c.args.end (c.slots.i + 1) c.args.list.now.items c.match-frame_of.list.items) [
      | in-Some+else-is_full w ↦
          let page = get_or_default c.args.slots.now c.slots.i w.index-slots-i-in-Some.result empty_slot h.walk.within in
          let one = is_one _ c.requires.list c.args.from c.args.end c.slots.i w.in-Some.frame h.walk more below (sym found ∙ w.in-Some.is) in
          let items = ap (λ v. v.items) w.list-is ∙ w.push.ensures.items in
          subst (λ xs. ListsTo c.args.slots.now c.args.from c.args.end (c.slots.i + 1) c.args.list.now.items xs) (sym items)
          (subst (λ (r : Slot). ListsTo c.args.slots.now c.args.from c.args.end (c.slots.i + 1) c.args.list.now.items
          (c.slots.list.items ++ (record { page = r.start; frame = w.in-Some.frame }) ∷ [])) (sym page)
          (list_one _ c.requires.list c.args.from c.args.end c.slots.i w.in-Some.frame _ c.slots.list.items h more below one))
      | in_default w ↦
          let items = ap (λ v. v.items) w.list-is in
          subst (λ xs. ListsTo c.args.slots.now c.args.from c.args.end (c.slots.i + 1) c.args.list.now.items xs) (sym items)
          (list_none _ c.requires.list c.args.from c.args.end c.slots.i _ c.slots.list.items c.requires.ordered h more (sym found ∙ w.in_default.is))
    ]
