use Rattle.std.proofs.Common.{false, ap, refl}
use Rattle.std.proofs.lemmas.Result.{IfOk-from_err}
use Rattle.slot_lock.specs.ListedSlots.{slots_of}
use Rattle.slot_lock.proofs.Facts.{on_err, two}
use Rattle.slot_lock.proofs.ListLaws.{list_laws}
use Rattle.slot_lock.proofs.slot_list.SlotList.add_slot.Goals as goal

pub can_add-requires : goal.can_add-requires
can_add-requires g c = rw c.deref.ensures.value c.args.self.now.ok

pub returns-then-not-can_add-clause-can : goal.returns-then-not-can_add-clause-can
returns-then-not-can_add-clause-can g c = rw c.if-not-can_add.true at (rw c.deref.ensures.value at c.can_add.ensures)

pub returns-then-not-can_add-clause-added : goal.returns-then-not-can_add-clause-added
returns-then-not-can_add-clause-added g c = λ t. absurd (two false refl t)

pub returns-then-not-can_add-clause-same : goal.returns-then-not-can_add-clause-same
returns-then-not-can_add-clause-same g c = λ f. refl

pub add-requires-clause-list : goal.add-requires-clause-list
add-requires-clause-list g c = c.args.self.now.ok

pub add-requires-clause-can : goal.add-requires-clause-can
add-requires-clause-can g c = (rw c.deref.ensures.value at c.can_add.ensures).0 c.if-not-can_add.false

pub invariant_of-self : goal.invariant_of-self
invariant_of-self g c = record { ok = c.add.ensures.list; laws = list_laws _ c.add.ensures.list }

pub returns-in_err-add-clause-can : goal.returns-in_err-add-clause-can
returns-in_err-add-clause-can g c = IfOk-from_err _ _ c.from_residual.ensures.0

pub returns-in_err-add-clause-added : goal.returns-in_err-add-clause-added
returns-in_err-add-clause-added g c = IfOk-from_err _ _ c.from_residual.ensures.0

pub returns-in_err-add-clause-same : goal.returns-in_err-add-clause-same
returns-in_err-add-clause-same g c = IfOk-from_err _ _ c.from_residual.ensures.0

pub returns-in_err-add-clause-err : goal.returns-in_err-add-clause-err
returns-in_err-add-clause-err g c = on_err _ (ap slots_of c.in_err-add.ensures.err)

pub returns-clause-can : goal.returns-clause-can
returns-clause-can g c = let can = (rw c.deref.ensures.value at c.can_add.ensures).0 c.if-not-can_add.false in (λ t. can, λ k. refl)

pub returns-clause-added : goal.returns-clause-added
returns-clause-added g c = λ t. c.in_ok-add.ensures.ok

pub returns-clause-same : goal.returns-clause-same
returns-clause-same g c = λ n. absurd (n refl)
