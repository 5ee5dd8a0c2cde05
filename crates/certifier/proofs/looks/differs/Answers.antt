use Rattle.std.proofs.Common.{◌≡◌, sym, ◌∙◌, arith}
use Rattle.certifier.proofs.Walking.{same_on}
use Rattle.certifier.proofs.looks.differs.Goals as goal

pub slots-preserved : goal.slots-preserved
slots-preserved g c =
    let below = c.slots-test.true in
    let end = c.min-end.ensures in
    same_on _ c.args.slot.now c.args.content.now c.slots.page c.slot-there.result (g.met.M.SlotMap.is_slot_map c.args.machine.now.engine.map)
    (omega (arith, below, end)) c.slot-there.ensures.slot c.slot-there.ensures.has
    (sym c.page-info.ensures ∙ c.is_from.ensures.0 c.if-not-is_from.false) c.slots.invariant
