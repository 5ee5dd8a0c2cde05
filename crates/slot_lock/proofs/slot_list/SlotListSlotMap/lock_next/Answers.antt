use Rattle.std.proofs.Common.{◌≡◌, inl, ◌<◌, ◌+◌, ◌^◌, Some, sym, ◌∙◌, ap, refl, arith}
use Rattle.std.proofs.lemmas.Result.{IfOk-from_err}
use Rattle.slot_lock.specs.declared.slot.Slot.{Slot}
use Rattle.slot_lock.specs.SlotList.{get_slot}
use Rattle.slot_lock.proofs.Places.{read_slot, before_last, inner, inside, start_most}
use Rattle.slot_lock.specs.ListedSlots.{slots_of, two_parts}
use Rattle.slot_lock.specs.Slots.{between}
use Rattle.slot_lock.proofs.Divisions.{splits, at_first, at_end}
use Rattle.slot_lock.proofs.Steps.{read_at, edge_of, no_edge, locks, crosses_end, crosses_start}
use Rattle.slot_lock.proofs.Facts.{on_err, on_err_both}
use Rattle.slot_lock.proofs.ListLaws.{list_laws}
use Rattle.slot_lock.proofs.slot_list.SlotListSlotMap.lock_next.Goals as goal

pub place-i-requires : goal.place-i-requires
place-i-requires g c = rw c.deref.ensures.value c.args.self.now.ok

pub index-slot-requires : goal.index-slot-requires
index-slot-requires g c = let at = rw c.deref.ensures.value at c.place-i.ensures in omega (arith, at.within)

pub index-requires : goal.index-requires
index-requires g c =
    let at = rw c.deref.ensures.value at c.place-i.ensures in
    omega (arith, before_last _ c.args.self.now.ok _ _ at (omega (arith, c.requires.ordered, c.requires.valid.1)))

pub cut-requires-clause-list : goal.cut-requires-clause-list
cut-requires-clause-list g c = c.args.self.now.ok

pub cut-requires-clause-inside : goal.cut-requires-clause-inside
cut-requires-clause-inside g c =
    let at = rw c.deref.ensures.value at c.place-i.ensures in
    let slot = read_slot c.args.self.now.slots.items c.place-i.result c.index-slot.result.now at.within c.index-slot.ensures in
    inside _ c.args.self.now.ok _ _ at c.requires.valid.0 (omega (arith, c.requires.ordered, c.requires.valid.1)) (rw slot at c.if-slot-cursor.true)

pub cut-requires-then-end-slot_end-clause-list : goal.cut-requires-then-end-slot_end-clause-list
cut-requires-then-end-slot_end-clause-list g c = c.args.self.now.ok

pub cut-requires-then-end-slot_end-clause-inside : goal.cut-requires-then-end-slot_end-clause-inside
cut-requires-then-end-slot_end-clause-inside g c =
    let at = rw c.deref.ensures.value at c.place-i.ensures in
    let here = inner _ c.args.self.now.ok _ _ at c.requires.valid.0 (omega (arith, c.requires.ordered, c.requires.valid.1)) in
    let next = read_slot c.args.self.now.slots.items (c.place-i.result + 1) c.index.result.now here.before_last c.index.ensures in
    record { inner = here; above = omega (arith, at.from, c.requires.ordered); below = rw next at c.if-end-slot_end.true }

pub set_owner-requires-clause-list : goal.set_owner-requires-clause-list
set_owner-requires-clause-list g c = c.args.self.now.ok

pub set_owner-requires-clause-inner : goal.set_owner-requires-clause-inner
set_owner-requires-clause-inner g c =
    inner _ c.args.self.now.ok _ _ (rw c.deref.ensures.value at c.place-i.ensures) c.requires.valid.0 (omega (arith, c.requires.ordered, c.requires.valid.1))

pub returns-in_err-cut-clause-step : goal.returns-in_err-cut-clause-step
returns-in_err-cut-clause-step g c = IfOk-from_err _ _ c.from_residual.ensures.0

pub returns-in_err-cut-clause-exact : goal.returns-in_err-cut-clause-exact
returns-in_err-cut-clause-exact g c = IfOk-from_err _ _ c.from_residual.ensures.0

pub returns-in_err-cut-clause-err : goal.returns-in_err-cut-clause-err
returns-in_err-cut-clause-err g c = on_err _ (ap slots_of c.in_err-cut.ensures.err)

pub returns-in_err-cut-2-clause-step : goal.returns-in_err-cut-2-clause-step
returns-in_err-cut-2-clause-step g c = IfOk-from_err _ _ c.from_residual-in_err-cut-2.ensures.0

pub returns-in_err-cut-2-clause-exact : goal.returns-in_err-cut-2-clause-exact
returns-in_err-cut-2-clause-exact g c = IfOk-from_err _ _ c.from_residual-in_err-cut-2.ensures.0

pub returns-in_err-cut-2-clause-err : goal.returns-in_err-cut-2-clause-err
returns-in_err-cut-2-clause-err g c = on_err _ (ap slots_of c.in_err-cut-2.ensures.err)

pub returns-in-Some-clause-step : goal.returns-in-Some-clause-step
returns-in-Some-clause-step g c =
    let at = rw c.deref.ensures.value at c.place-i.ensures in
    let owner = sym
    (ap (λ (r : Slot). r.owner)
    (read_at c.args.self.now.slots.items c.args.self.now.ok c.args.cursor c.place-i.result c.index-slot.result.now at
    c.index-slot.ensures)) ∙ c.in-Some.is in
    (λ same. c.requires.not_held (owner ∙ ap Some same), owner, refl)

pub returns-then-end-slot_end-clause-step : goal.returns-then-end-slot_end-clause-step
returns-then-end-slot_end-clause-step g c =
    let at = rw c.deref.ensures.value at c.place-i.ensures in
    let below : c.args.cursor < 2 ^ 35 = omega (arith, c.requires.ordered, c.requires.valid.1) in
    let last = before_last _ c.args.self.now.ok _ _ at below in
    let slot = read_slot c.args.self.now.slots.items c.place-i.result c.index-slot.result.now at.within c.index-slot.ensures in
    let next = read_slot c.args.self.now.slots.items (c.place-i.result + 1) c.index.result.now last c.index.ensures in
    let begins : (get_slot c.args.self.now.slots.items c.place-i.result).start ≡ c.args.cursor = omega (arith, at.from, rw slot at c.if-slot-cursor.false) in
    let free = rw slot at c.in_default.is in
    let above = start_most _ c.args.self.now.ok _ last in
    let past = rw next at c.if-end-slot_end.true in
    splits two_parts _ _ c.args.cursor c.args.end c.args.end c.requires.ordered
    (sym (ap (λ (r : Slot). r.owner)
    (read_at c.args.self.now.slots.items c.args.self.now.ok c.args.cursor c.place-i.result c.index-slot.result.now at
    c.index-slot.ensures)) ∙ c.in_default.is)
    (crosses_end _ c.args.self.now.ok c.place-i.result c.args.cursor c.args.end last begins past)
    (omega (arith, c.requires.ordered), omega arith)
    (rw free at c.in_ok-cut-2.ensures.ok)
    (at_end two_parts _ _ (between c.args.cursor c.args.end) (edge_of _ c.args.self.now.ok _ _ at (omega arith)) c.in_ok-cut-2.ensures.exact)

pub returns-then-end-slot_end-clause-exact : goal.returns-then-end-slot_end-clause-exact
returns-then-end-slot_end-clause-exact g c =
    let at = rw c.deref.ensures.value at c.place-i.ensures in
    let slot = read_slot c.args.self.now.slots.items c.place-i.result c.index-slot.result.now at.within c.index-slot.ensures in
    at_end two_parts _ _ (between c.args.cursor c.args.end) (edge_of _ c.args.self.now.ok _ _ at (rw slot at c.if-slot-cursor.false))
    c.in_ok-cut-2.ensures.exact

pub returns-then-slot-cursor-clause-step : goal.returns-then-slot-cursor-clause-step
returns-then-slot-cursor-clause-step g c =
    let at = rw c.deref.ensures.value at c.place-i.ensures in
    let slot = read_slot c.args.self.now.slots.items c.place-i.result c.index-slot.result.now at.within c.index-slot.ensures in
    let crossed = no_edge _ c.args.self.now.ok _ _ at (rw slot at c.if-slot-cursor.true) in
    splits two_parts _ _ c.args.cursor c.args.end c.args.cursor c.requires.ordered
    (sym (ap (λ (r : Slot). r.owner)
    (read_at c.args.self.now.slots.items c.args.self.now.ok c.args.cursor c.place-i.result c.index-slot.result.now at
    c.index-slot.ensures)) ∙ c.in_default.is)
    (inl crossed)
    (c.requires.valid.0, omega (arith, c.requires.ordered, c.requires.valid.1))
    (rw (rw slot at c.in_default.is) at c.in_ok-cut.ensures.ok)
    (at_first two_parts _ _ (between c.args.cursor c.args.end) crossed c.in_ok-cut.ensures.exact)

pub returns-then-slot-cursor-clause-exact : goal.returns-then-slot-cursor-clause-exact
returns-then-slot-cursor-clause-exact g c =
    let at = rw c.deref.ensures.value at c.place-i.ensures in
    let slot = read_slot c.args.self.now.slots.items c.place-i.result c.index-slot.result.now at.within c.index-slot.ensures in
    at_first two_parts _ _ (between c.args.cursor c.args.end) (no_edge _ c.args.self.now.ok _ _ at (rw slot at c.if-slot-cursor.true)) c.in_ok-cut.ensures.exact

pub returns-clause-step : goal.returns-clause-step
returns-clause-step g c =
    let at = rw c.deref.ensures.value at c.place-i.ensures in
    let below : c.args.cursor < 2 ^ 35 = omega (arith, c.requires.ordered, c.requires.valid.1) in
    let last = before_last _ c.args.self.now.ok _ _ at below in
    let slot = read_slot c.args.self.now.slots.items c.place-i.result c.index-slot.result.now at.within c.index-slot.ensures in
    let next = read_slot c.args.self.now.slots.items (c.place-i.result + 1) c.index.result.now last c.index.ensures in
    let begins : (get_slot c.args.self.now.slots.items c.place-i.result).start ≡ c.args.cursor = omega (arith, at.from, rw slot at c.if-slot-cursor.false) in
    let free = rw slot at c.in_default.is in
    rw next (locks _ _ c.args.self.now.ok c.place-i.result c.args.core c.args.cursor c.args.end last begins free
    (rw next at c.if-end-slot_end.false) c.set_owner.ensures.slots)

pub returns-in_err-cut-clause-err_only : goal.returns-in_err-cut-clause-err_only
returns-in_err-cut-clause-err_only g c =
    let at = rw c.deref.ensures.value at c.place-i.ensures in
    let slot = read_slot c.args.self.now.slots.items c.place-i.result c.index-slot.result.now at.within c.index-slot.ensures in
    on_err_both _
    (sym (ap (λ (r : Slot). r.owner)
    (read_at c.args.self.now.slots.items c.args.self.now.ok c.args.cursor c.place-i.result c.index-slot.result.now at
    c.index-slot.ensures)) ∙ c.in_default.is) (crosses_start _ c.args.self.now.ok c.place-i.result c.args.cursor c.args.end at
    (rw slot at c.if-slot-cursor.true))

pub returns-in_err-cut-2-clause-err_only : goal.returns-in_err-cut-2-clause-err_only
returns-in_err-cut-2-clause-err_only g c =
    let at = rw c.deref.ensures.value at c.place-i.ensures in
    let below : c.args.cursor < 2 ^ 35 = omega (arith, c.requires.ordered, c.requires.valid.1) in
    let last = before_last _ c.args.self.now.ok _ _ at below in
    let slot = read_slot c.args.self.now.slots.items c.place-i.result c.index-slot.result.now at.within c.index-slot.ensures in
    let next = read_slot c.args.self.now.slots.items (c.place-i.result + 1) c.index.result.now last c.index.ensures in
    let begins : (get_slot c.args.self.now.slots.items c.place-i.result).start ≡ c.args.cursor = omega (arith, at.from, rw slot at c.if-slot-cursor.false) in
    let past = rw next at c.if-end-slot_end.true in
    on_err_both _
    (sym (ap (λ (r : Slot). r.owner)
    (read_at c.args.self.now.slots.items c.args.self.now.ok c.args.cursor c.place-i.result c.index-slot.result.now at
    c.index-slot.ensures)) ∙ c.in_default.is)
    (crosses_end _ c.args.self.now.ok c.place-i.result c.args.cursor c.args.end last begins past)

pub invariant_of-self : goal.invariant_of-self
invariant_of-self g c = record { ok = c.cut.ensures.list; laws = list_laws _ c.cut.ensures.list }

pub invariant_of-self-then-end-slot_end : goal.invariant_of-self-then-end-slot_end
invariant_of-self-then-end-slot_end g c = record { ok = c.cut-then-end-slot_end.ensures.list; laws = list_laws _ c.cut-then-end-slot_end.ensures.list }

pub invariant_of-self-2 : goal.invariant_of-self-2
invariant_of-self-2 g c = record { ok = c.set_owner.ensures.list; laws = list_laws _ c.set_owner.ensures.list }
