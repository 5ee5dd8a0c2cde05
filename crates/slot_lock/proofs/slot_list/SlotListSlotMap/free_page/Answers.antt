use Rattle.std.proofs.Common.{◌+◌, arith, ap, ◌∙◌, sym}
use Rattle.slot_lock.specs.declared.slot.Slot.{Slot}
use Rattle.slot_lock.proofs.Places.{read_slot, before_last}
use Rattle.slot_lock.proofs.Facts.{no_some, none_of}
use Rattle.slot_lock.proofs.Steps.{free_page, free_slot}
use Rattle.slot_lock.proofs.slot_list.SlotListSlotMap.free_page.Goals.{then-is_some-via-then-is_some}
use Rattle.slot_lock.proofs.slot_list.SlotListSlotMap.free_page.Goals.{then-is_some-via-else-is_some+then-slot-page}
use Rattle.slot_lock.proofs.slot_list.SlotListSlotMap.free_page.Goals.{then-is_some-via-else-is_some+else-slot-page+then-page-index}
use Rattle.slot_lock.proofs.slot_list.SlotListSlotMap.free_page.Goals as goal

pub place-i-requires : goal.place-i-requires
place-i-requires g c = rw c.deref.ensures.value c.args.self.now.ok

pub index-requires : goal.index-requires
index-requires g c = let at = rw c.deref.ensures.value at c.place-i.ensures in omega (arith, at.within)

pub overflow_add-page : goal.overflow_add-page
overflow_add-page g c = omega (arith, c.requires.1)

pub index-requires-else-slot-page : goal.index-requires-else-slot-page
index-requires-else-slot-page g c =
    omega (arith, before_last _ c.args.self.now.ok _ _ (rw c.deref.ensures.value at c.place-i.ensures) c.requires.1)

pub returns-then-is_some-clause-none : goal.returns-then-is_some-clause-none
returns-then-is_some-clause-none g c = λ alone.
    let at = rw c.deref.ensures.value at c.place-i.ensures in
    let slot = read_slot c.args.self.now.slots.items c.place-i.result c.index.result.now at.within c.index.ensures in
    let free = free_slot _ c.args.self.now.ok _ _ at c.requires.1 alone in
    elim c.then-is_some.branch [
      | then-is_some-via-then-is_some w ↦
          no_some _ (sym c.is_some.ensures ∙ w.if-is_some.true) (ap (λ (r : Slot). r.owner) slot ∙ free.0)
      | then-is_some-via-else-is_some+then-slot-page w ↦ let before = rw slot at w.if-slot-page.true in let b = free.1 in omega arith
      | then-is_some-via-else-is_some+else-slot-page+then-page-index w ↦
          let last = before_last _ c.args.self.now.ok _ _ at c.requires.1 in
          let next = read_slot c.args.self.now.slots.items (c.place-i.result + 1) _ last w.index-else-slot-page.ensures in
          let past = rw next at w.if-page-index.true in let b = free.2 in omega arith
    ]

pub returns-clause-some : goal.returns-clause-some
returns-clause-some g c =
    let at = rw c.deref.ensures.value at c.place-i.ensures in
    let last = before_last _ c.args.self.now.ok _ _ at c.requires.1 in
    let slot = read_slot c.args.self.now.slots.items c.place-i.result c.index.result.now at.within c.index.ensures in
    let next = read_slot c.args.self.now.slots.items (c.place-i.result + 1) _ last c.index-else-slot-page.ensures in
    let free = none_of _ (sym c.is_some.ensures ∙ c.if-is_some.false) in
    rw slot (free_page _ c.args.self.now.ok _ _ at c.requires.1 (rw slot at free)
    (rw slot at c.if-slot-page.false) (rw next at c.if-page-index.false))
