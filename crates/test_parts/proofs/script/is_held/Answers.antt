use Rattle.std.proofs.Common.{Some, sym, ◌∙◌, ap}
use Rattle.vm_base.proofs.Functions.{eq_true}
use Rattle.slot_lock.proofs.SlotLaws.{slot-IsHeld}
use Rattle.test_parts.proofs.script.is_held.Goals as goal

pub returns-in-Some-clause-held : goal.returns-in-Some-clause-held
returns-in-Some-clause-held g c = λ is.
    let slot = rw (c.if-slot-range.false, c.if-slot-range-2.false) at c.slot-slot.ensures.slot in
    let core = sym c.index.ensures.value ∙ (eq_true _ _ is ∙ c.index-in-Some.ensures.value) in
    let own = sym c.owner.ensures ∙ (c.in-Some.is ∙ ap Some core) in
    slot-IsHeld _ (g.met.M.SlotMap.is_slot_map c.args.map.now) c.args.core c.args.range c.requires slot own
