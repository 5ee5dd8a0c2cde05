use Rattle.slot_lock.proofs.Words.{◌-◌, Some, arith, ap, refl, sym, ◌∙◌, advance}
use Rattle.slot_lock.specs.MapWalks.{info_meta}
use Rattle.slot_lock.proofs.MapWalks.{ends_at_limit, holds, run_first, run_next}
use Rattle.slot_lock.proofs.map_list.run_end.Goals as goal

pub slots-init : goal.slots-init
slots-init g c =
    let page = c.requires.page in
    run_first _ c.requires.laws c.args.first c.args.meta c.slot-slot.result
    (holds _ c.slot-slot.result c.args.first c.slot-slot.ensures.slot c.slot-slot.ensures.has page.0 page.1) c.requires.mapped

pub page-next-requires : goal.page-next-requires
page-next-requires g c =
    let some = c.slots.invariant.some in
    c.requires.reads c.slots.end (omega arith, c.slots-test.true)

pub overflow_sub-end : goal.overflow_sub-end
overflow_sub-end g c = let some = c.slots.invariant.some in omega arith

pub returns-then-not-is_mapped_to-clause-run : goal.returns-then-not-is_mapped_to-clause-run
returns-then-not-is_mapped_to-clause-run g c = c.slots.invariant

pub slot-slot-requires-in-slots : goal.slot-slot-requires-in-slots
slot-slot-requires-in-slots g c =
    let some = c.slots.invariant.some in
    c.requires.reads c.slots.end (omega arith, c.slots-test.true)

pub slots-preserved : goal.slots-preserved
slots-preserved g c =
    let some = c.slots.invariant.some in
    let next = c.slot-slot-in-slots.result in
    run_next _ c.requires.laws c.args.first c.args.meta c.slots.end next
    (holds _ next c.slots.end c.slot-slot-in-slots.ensures.slot c.slot-slot-in-slots.ensures.has (omega arith) c.slots-test.true)
    (ap info_meta (sym c.page-next.ensures) ∙ ((c.if-not-is_mapped_to.ensures {u = tt}).0 refl ∙ ap Some c.advanced.ensures)) c.slots.invariant

pub returns-clause-run : goal.returns-clause-run
returns-clause-run g c = c.slots.invariant

pub returns-clause-ends : goal.returns-clause-ends
returns-clause-ends g c =
    ends_at_limit _ c.requires.laws c.slots.end (advance c.args.meta (c.slots.end - c.args.first)) c.slots.invariant.high c.slots-test.false
