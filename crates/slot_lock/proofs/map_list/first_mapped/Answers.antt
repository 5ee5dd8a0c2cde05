use Rattle.std.proofs.Common.{arith, sym, ◌∙◌}
use Rattle.slot_lock.proofs.MapWalks.{below_first, below_next, first_is, holds, none_to_limit}
use Rattle.slot_lock.proofs.map_list.first_mapped.Goals as goal

pub slots-init : goal.slots-init
slots-init g c = below_first _ c.args.from

pub page-requires : goal.page-requires
page-requires g c =
    let low = c.slots.invariant.low in
    c.requires.reads c.slots.page (omega (arith, c.requires.from), c.slots-test.true)

pub returns-in-Some-clause-some : goal.returns-in-Some-clause-some
returns-in-Some-clause-some g c =
    first_is (g.M.SlotRead.slots c.args.map.now) c.args.from c.slots.page c.in-Some.info c.slots.invariant c.slots-test.true (sym c.page.ensures ∙ c.in-Some.is)

pub slot-slot-requires : goal.slot-slot-requires
slot-slot-requires g c =
    let low = c.slots.invariant.low in
    c.requires.reads c.slots.page (omega (arith, c.requires.from), c.slots-test.true)

pub slots-preserved : goal.slots-preserved
slots-preserved g c =
    let low = c.slots.invariant.low in
    below_next _ c.requires.laws c.args.from c.slots.page c.slot-slot.result
    (holds _ c.slot-slot.result c.slots.page c.slot-slot.ensures.slot c.slot-slot.ensures.has (omega (arith, c.requires.from)) c.slots-test.true)
    (sym c.page.ensures ∙ c.in_default.is) c.slots.invariant

pub returns-clause-none : goal.returns-clause-none
returns-clause-none g c = none_to_limit _ c.args.from c.slots.page c.slots.invariant c.slots-test.false
