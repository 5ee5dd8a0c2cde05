use Rattle.std.proofs.Common.{◌≡◌, ◌+◌, ◌-◌, length, sym, ◌∙◌, ap, arith}
use Rattle.slot_lock.specs.declared.slot.Slot.{Slot}
use Rattle.slot_lock.specs.SlotList.{get_slot}
use Rattle.slot_lock.proofs.Places.{read_slot}
use Rattle.slot_lock.proofs.Adding.{rest_owner, rest_info, rest}
use Rattle.slot_lock.proofs.Facts.{no_some, none_of}
use Rattle.slot_lock.proofs.lent.rest_of.Goals as goal

pub returns-then-is_some-clause-none : goal.returns-then-is_some-clause-none
returns-then-is_some-clause-none c = λ start h.
    let n : length c.args.slots.now - 2 + 2 ≡ length c.args.slots.now = omega (arith, c.requires.some) in
    let slot : c.index-slots-slots.result ≡ get_slot c.args.slots.now (length c.args.slots.now - 2) = read_slot c.args.slots.now
    (length c.args.slots.now - 2) c.index-slots-slots.result (omega (arith, c.requires.some)) c.index-slots-slots.is in
    no_some _ (sym c.is_some.ensures ∙ c.if-is_some.true) (ap (λ (r : Slot). r.owner) slot ∙ rest_owner _ c.requires _ start n h)

pub returns-then-is_some-2-clause-none : goal.returns-then-is_some-2-clause-none
returns-then-is_some-2-clause-none c = λ start h.
    let n : length c.args.slots.now - 2 + 2 ≡ length c.args.slots.now = omega (arith, c.requires.some) in
    let slot : c.index-slots-slots.result ≡ get_slot c.args.slots.now (length c.args.slots.now - 2) = read_slot c.args.slots.now
    (length c.args.slots.now - 2) c.index-slots-slots.result (omega (arith, c.requires.some)) c.index-slots-slots.is in
    no_some _ (sym c.is_some-2.ensures ∙ c.if-is_some-2.true) (ap (λ (r : Slot). r.info) slot ∙ rest_info _ c.requires _ start n h)

pub returns-clause-some : goal.returns-clause-some
returns-clause-some c =
    let n : length c.args.slots.now - 2 + 2 ≡ length c.args.slots.now = omega (arith, c.requires.some) in
    let slot : c.index-slots-slots.result ≡ get_slot c.args.slots.now (length c.args.slots.now - 2) = read_slot c.args.slots.now
    (length c.args.slots.now - 2) c.index-slots-slots.result (omega (arith, c.requires.some)) c.index-slots-slots.is in
    let owner = none_of _ (sym c.is_some.ensures ∙ c.if-is_some.false) in
    let info = none_of _ (sym c.is_some-2.ensures ∙ c.if-is_some-2.false) in
    rw slot (rest _ c.requires _ n (rw slot at owner) (rw slot at info))
