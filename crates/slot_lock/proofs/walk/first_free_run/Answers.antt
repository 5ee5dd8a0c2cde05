use Rattle.slot_lock.proofs.Words.{◌≡◌, ◌+◌, ◌-◌, ◌<◌, ◌≤◌, false, is_some, min, sym, get_or_default}
use Rattle.slot_lock.specs.SlotList.{get_slot, empty_slot}
use Rattle.slot_lock.proofs.Walks.{Free, walk_more, free_mapped, free_next, free_found, free_none}
use Rattle.slot_lock.proofs.walk.first_free_run.Goals.{then-is_some, else-is_some+else-n-min}
use Rattle.slot_lock.proofs.walk.first_free_run.Goals as goal

pub returns-then-n-min-clause-found : goal.returns-then-n-min-clause-found
returns-then-n-min-clause-found c =
    let f = c.slots.invariant in
    let here = get_or_default c.args.slots.now c.slots.i c.index-slots-i.result empty_slot f.walk.within in
    let below : (get_slot c.args.slots.now c.slots.i).start < c.args.range.end = rw here at c.slots-test.true in
    let more = walk_more _ c.requires.list _ _ _ f.walk below c.requires.range.high in
    let next = get_or_default c.args.slots.now (c.slots.i + 1) c.index-slots-i-in-slots.result empty_slot more in
    let here_too = get_or_default c.args.slots.now c.slots.i c.index-slots-i-in-slots-2.result empty_slot f.walk.within in
    let none : is_some (get_slot c.args.slots.now c.slots.i).info ≡ false = rw here_too at (sym (c.if-is_some.ensures {u = tt})) in
    let enough : c.args.n ≤ min (get_slot c.args.slots.now (c.slots.i + 1)).start c.args.range.end - c.slots.start =
    rw (c.min.ensures, next) at c.if-n-min.true in
    free_found _ c.requires.list c.args.range _ _ _ c.requires.some f more none enough

pub slots-preserved : goal.slots-preserved
slots-preserved c =
    let f = c.slots.invariant in
    let here = get_or_default c.args.slots.now c.slots.i c.index-slots-i.result empty_slot f.walk.within in
    let below : (get_slot c.args.slots.now c.slots.i).start < c.args.range.end = rw here at c.slots-test.true in
    let more = walk_more _ c.requires.list _ _ _ f.walk below c.requires.range.high in
    let next = get_or_default c.args.slots.now (c.slots.i + 1) c.index-slots-i-in-slots.result empty_slot more in
    let here_too = get_or_default c.args.slots.now c.slots.i c.index-slots-i-in-slots-2.result empty_slot f.walk.within in
    elim c.if-is_some.branch as (λ _. Free c.args.slots.now c.args.range c.args.n c.if-is_some.start (c.slots.i + 1)) [
      | then-is_some w ↦ rw (w.start-is, next) (free_mapped _ c.requires.list c.args.range _ _ _ c.requires.some f more below
          (rw here_too at (sym (w.if-is_some.ensures {u = tt}))))
      | else-is_some+else-n-min w ↦
          let few : min (get_slot c.args.slots.now (c.slots.i + 1)).start c.args.range.end - c.slots.start < c.args.n =
          rw (w.min.ensures, next) at w.if-n-min.false in
          rw w.start-is (free_next _ c.requires.list c.args.range _ _ _ f more (rw here_too at (sym (w.if-is_some.ensures {u = tt}))) few)
    ]

pub returns-clause-none : goal.returns-clause-none
returns-clause-none c =
    let here = get_or_default c.args.slots.now c.slots.i c.index-slots-i.result empty_slot c.slots.invariant.walk.within in
    free_none _ c.args.range _ _ _ c.slots.invariant (rw here at c.slots-test.false)
