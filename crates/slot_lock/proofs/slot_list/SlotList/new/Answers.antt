use Rattle.std.proofs.Common.{refl}
use Rattle.std.proofs.lemmas.Result.{IfOk-from_err}
use Rattle.slot_lock.proofs.Steps.{new_list, new_list-IsSlotList, new_list-IsNew}
use Rattle.slot_lock.proofs.Adding.{rest}
use Rattle.slot_lock.proofs.ListLaws.{list_laws}
use Rattle.slot_lock.proofs.slot_list.SlotList.new.Goals as goal

pub returns-clause-new : goal.returns-clause-new
returns-clause-new g c = rw (c.in_ok-push-3.ensures.items, c.in_ok-push-2.ensures.items, c.in_ok-push.ensures.items, c.in_ok-slots.ensures.items) new_list-IsNew

pub returns-clause-rest : goal.returns-clause-rest
returns-clause-rest g c =
    rw (c.in_ok-push-3.ensures.items, c.in_ok-push-2.ensures.items, c.in_ok-push.ensures.items, c.in_ok-slots.ensures.items)
    (rest new_list new_list-IsSlotList 1 refl refl refl)

pub invariant_of-result-clause-laws : goal.invariant_of-result-clause-laws
invariant_of-result-clause-laws g c =
    rw (c.in_ok-push-3.ensures.items, c.in_ok-push-2.ensures.items, c.in_ok-push.ensures.items, c.in_ok-slots.ensures.items)
    (list_laws new_list new_list-IsSlotList)

pub returns-in_err-slots-clause-rest : goal.returns-in_err-slots-clause-rest
returns-in_err-slots-clause-rest g c = IfOk-from_err _ _ c.from_residual.ensures.0

pub returns-in_err-slots-clause-new : goal.returns-in_err-slots-clause-new
returns-in_err-slots-clause-new g c = IfOk-from_err _ _ c.from_residual.ensures.0

pub returns-in_err-push-clause-rest : goal.returns-in_err-push-clause-rest
returns-in_err-push-clause-rest g c = IfOk-from_err _ _ c.from_residual-in_err-push.ensures.0

pub returns-in_err-push-clause-new : goal.returns-in_err-push-clause-new
returns-in_err-push-clause-new g c = IfOk-from_err _ _ c.from_residual-in_err-push.ensures.0

pub returns-in_err-push-2-clause-rest : goal.returns-in_err-push-2-clause-rest
returns-in_err-push-2-clause-rest g c = IfOk-from_err _ _ c.from_residual-in_err-push-2.ensures.0

pub returns-in_err-push-2-clause-new : goal.returns-in_err-push-2-clause-new
returns-in_err-push-2-clause-new g c = IfOk-from_err _ _ c.from_residual-in_err-push-2.ensures.0

pub returns-in_err-push-3-clause-rest : goal.returns-in_err-push-3-clause-rest
returns-in_err-push-3-clause-rest g c = IfOk-from_err _ _ c.from_residual-in_err-push-3.ensures.0

pub returns-in_err-push-3-clause-new : goal.returns-in_err-push-3-clause-new
returns-in_err-push-3-clause-new g c = IfOk-from_err _ _ c.from_residual-in_err-push-3.ensures.0

pub invariant_of-result-clause-ok : goal.invariant_of-result-clause-ok
invariant_of-result-clause-ok g c =
    rw (c.in_ok-push-3.ensures.items, c.in_ok-push-2.ensures.items, c.in_ok-push.ensures.items, c.in_ok-slots.ensures.items) new_list-IsSlotList
