use Rattle.slot_lock.proofs.Words.{◌≡◌, ◌-◌, ◌+◌, sym, ◌∙◌, ap, subst, arith, Option, PageInfo, info_from}
use Rattle.slot_lock.specs.declared.slot.Slot.{Slot}
use Rattle.slot_lock.specs.SlotList.{get_slot}
use Rattle.slot_lock.specs.Slots.{HasMeta}
use Rattle.slot_lock.proofs.Places.{inner, slot_at_is}
use Rattle.slot_lock.proofs.ListLaws.{info_from_zero, list_laws}
use Rattle.slot_lock.proofs.Steps.{one_page}
use Rattle.slot_lock.proofs.slot_list.SlotListSlotMap.set_leaf.Goals as goal

pub place-i-requires : goal.place-i-requires
place-i-requires g c = rw c.deref.ensures.value c.args.self.now.ok

pub set_info-requires-clause-list : goal.set_info-requires-clause-list
set_info-requires-clause-list g c = c.args.self.now.ok

pub set_info-requires-clause-inner : goal.set_info-requires-clause-inner
set_info-requires-clause-inner g c = inner _ c.args.self.now.ok _ _ (rw c.deref.ensures.value at c.place-i.ensures) c.requires.valid.0 c.requires.valid.1

pub set_info-requires-clause-one : goal.set_info-requires-clause-one
set_info-requires-clause-one g c =
    let at = rw c.deref.ensures.value at c.place-i.ensures in
    let one = one_page _ c.args.self.now.ok _ _ at c.requires.alone c.requires.valid.1 in
    one.1 ∙ ap (λ n. n + 1) (sym one.0)

pub set_info-requires-clause-meta : goal.set_info-requires-clause-meta
set_info-requires-clause-meta g c =
    let at = rw c.deref.ensures.value at c.place-i.ensures in
    let one = one_page _ c.args.self.now.ok _ _ at c.requires.alone c.requires.valid.1 in
    let none : c.args.page - (get_slot c.args.self.now.slots.items c.place-i.result).start ≡ 0 = omega (arith, one.0) in
    let info = ap (λ (r : Slot). info_from r.info (c.args.page - r.start)) (slot_at_is _ c.args.self.now.ok _ _ at)
    ∙ (ap (info_from (get_slot c.args.self.now.slots.items c.place-i.result).info) none
    ∙ info_from_zero (get_slot c.args.self.now.slots.items c.place-i.result).info) in
    let P : Option PageInfo → Type 0 = λ o. HasMeta o c.args.info.meta in
    subst P info c.requires.meta

pub returns : goal.returns
returns g c =
    let at = rw c.deref.ensures.value at c.place-i.ensures in
    let one = one_page _ c.args.self.now.ok _ _ at c.requires.alone c.requires.valid.1 in
    rw one.0 at c.set_info.ensures.slots

pub invariant_of-self : goal.invariant_of-self
invariant_of-self g c = record { ok = c.set_info.ensures.list; laws = list_laws _ c.set_info.ensures.list }
