use Rattle.std.proofs.Common.{◌-◌, ap, sym, ◌∙◌, refl, inl, inr, arith}
use Rattle.std.proofs.lemmas.Result.{IfOk-from_err}
use Rattle.slot_lock.proofs.Places.{read_slot, inside}
use Rattle.slot_lock.specs.ListedSlots.{slots_of, two_parts}
use Rattle.slot_lock.proofs.Divisions.{cuts, at_first, at_end}
use Rattle.slot_lock.proofs.Steps.{below_limit, owner_before, owner_at, edge_of, no_edge}
use Rattle.slot_lock.proofs.Facts.{on_err}
use Rattle.slot_lock.proofs.ListLaws.{list_laws}
use Rattle.slot_lock.proofs.slot_list.SlotListSlotMap.cut_next.Goals as goal

pub place-i-requires : goal.place-i-requires
place-i-requires g c = rw c.deref.ensures.value c.args.self.now.ok

pub index-requires : goal.index-requires
index-requires g c = let at = rw c.deref.ensures.value at c.place-i.ensures in omega (arith, at.within)

pub cut-requires-clause-list : goal.cut-requires-clause-list
cut-requires-clause-list g c = c.args.self.now.ok

pub cut-requires-clause-inside : goal.cut-requires-clause-inside
cut-requires-clause-inside g c =
    let at = rw c.deref.ensures.value at c.place-i.ensures in
    let slot = read_slot c.args.self.now.slots.items c.place-i.result c.index.result.now at.within c.index.ensures in
    inside _ c.args.self.now.ok _ _ at c.requires.range.low (omega (arith, c.requires.range.some, c.requires.range.high)) (rw slot at c.if-index-range.true)

pub place-j-requires : goal.place-j-requires
place-j-requires g c = rw c.deref-2.ensures.value c.args.self.now.ok

pub index-requires-2 : goal.index-requires-2
index-requires-2 g c = let at = rw c.deref-2.ensures.value at c.place-j.ensures in omega (arith, at.within)

pub cut-requires-then-index-range-2-clause-list : goal.cut-requires-then-index-range-2-clause-list
cut-requires-then-index-range-2-clause-list g c = c.args.self.now.ok

pub cut-requires-then-index-range-2-clause-inside : goal.cut-requires-then-index-range-2-clause-inside
cut-requires-then-index-range-2-clause-inside g c =
    let at = rw c.deref-2.ensures.value at c.place-j.ensures in
    let slot = read_slot c.args.self.now.slots.items c.place-j.result c.index-2.result.now at.within c.index-2.ensures in
    let above = rw slot at c.if-index-range-2.true in
    inside _ c.args.self.now.ok _ _ at (omega (arith, c.requires.range.some)) (below_limit _ c.args.self.now.ok _ _ at above c.requires.range.high) above

pub returns-in_err-cut-clause-step : goal.returns-in_err-cut-clause-step
returns-in_err-cut-clause-step g c = IfOk-from_err _ _ c.from_residual.ensures.0

pub returns-in_err-cut-clause-exact : goal.returns-in_err-cut-clause-exact
returns-in_err-cut-clause-exact g c = IfOk-from_err _ _ c.from_residual.ensures.0

pub returns-in_err-cut-clause-err : goal.returns-in_err-cut-clause-err
returns-in_err-cut-clause-err g c = on_err _ (ap slots_of c.in_err-cut.ensures.err)

pub returns-in_err-cut-2-clause-step : goal.returns-in_err-cut-2-clause-step
returns-in_err-cut-2-clause-step g c = IfOk-from_err _ _ c.from_residual-in_err-cut-2.ensures.0

pub returns-in_err-cut-2-clause-exact : goal.returns-in_err-cut-2-clause-exact
returns-in_err-cut-2-clause-exact g c = IfOk-from_err _ _ c.from_residual-in_err-cut-2.ensures.0

pub returns-in_err-cut-2-clause-err : goal.returns-in_err-cut-2-clause-err
returns-in_err-cut-2-clause-err g c = on_err _ (ap slots_of c.in_err-cut-2.ensures.err)

pub returns-then-index-range-clause-step : goal.returns-then-index-range-clause-step
returns-then-index-range-clause-step g c =
    let at = rw c.deref.ensures.value at c.place-i.ensures in
    let slot = read_slot c.args.self.now.slots.items c.place-i.result c.index.result.now at.within c.index.ensures in
    let inside = rw slot at c.if-index-range.true in
    let held = c.requires.held.held c.args.range.first (omega arith) c.requires.range.some in
    let owner = sym (owner_at _ c.args.self.now.ok _ _ at) ∙ held in
    let crossed = no_edge _ c.args.self.now.ok _ _ at inside in
    cuts two_parts _ _ c.args.core c.args.range c.args.range.first (inl crossed)
    (c.requires.range.low, omega (arith, c.requires.range.some, c.requires.range.high)) (rw owner at c.in_ok-cut.ensures.ok)
    (at_first two_parts _ _ c.args.range crossed c.in_ok-cut.ensures.exact)

pub returns-then-index-range-clause-exact : goal.returns-then-index-range-clause-exact
returns-then-index-range-clause-exact g c =
    let at = rw c.deref.ensures.value at c.place-i.ensures in
    let slot = read_slot c.args.self.now.slots.items c.place-i.result c.index.result.now at.within c.index.ensures in
    at_first two_parts _ _ c.args.range (no_edge _ c.args.self.now.ok _ _ at (rw slot at c.if-index-range.true)) c.in_ok-cut.ensures.exact

pub returns-then-index-range-2-clause-step : goal.returns-then-index-range-2-clause-step
returns-then-index-range-2-clause-step g c =
    let at = rw c.deref-2.ensures.value at c.place-j.ensures in
    let slot = read_slot c.args.self.now.slots.items c.place-j.result c.index-2.result.now at.within c.index-2.ensures in
    let inside = rw slot at c.if-index-range-2.true in
    let below = below_limit _ c.args.self.now.ok _ _ at inside c.requires.range.high in
    let held = c.requires.held.held (c.args.range.end - 1) (omega (arith, c.requires.range.some)) (omega (arith, c.requires.range.some)) in
    let owner = sym (owner_before _ c.args.self.now.ok _ _ at inside) ∙ held in
    let first_at = rw c.deref.ensures.value at c.place-i.ensures in
    let first = read_slot c.args.self.now.slots.items c.place-i.result c.index.result.now first_at.within c.index.ensures in
    let begins = edge_of _ c.args.self.now.ok _ _ first_at (rw first at c.if-index-range.false) in
    cuts two_parts _ _ c.args.core c.args.range c.args.range.end (inr (no_edge _ c.args.self.now.ok _ _ at inside))
    (omega (arith, c.requires.range.some), below) (rw owner at c.in_ok-cut-2.ensures.ok)
    (at_end two_parts _ _ c.args.range begins c.in_ok-cut-2.ensures.exact)

pub returns-then-index-range-2-clause-exact : goal.returns-then-index-range-2-clause-exact
returns-then-index-range-2-clause-exact g c =
    let at = rw c.deref.ensures.value at c.place-i.ensures in
    let slot = read_slot c.args.self.now.slots.items c.place-i.result c.index.result.now at.within c.index.ensures in
    at_end two_parts _ _ c.args.range (edge_of _ c.args.self.now.ok _ _ at (rw slot at c.if-index-range.false)) c.in_ok-cut-2.ensures.exact

pub returns-clause-step : goal.returns-clause-step
returns-clause-step g c =
    let at = rw c.deref.ensures.value at c.place-i.ensures in
    let at_end = rw c.deref-2.ensures.value at c.place-j.ensures in
    let first = read_slot c.args.self.now.slots.items c.place-i.result c.index.result.now at.within c.index.ensures in
    let end = read_slot c.args.self.now.slots.items c.place-j.result c.index-2.result.now at_end.within c.index-2.ensures in (
      record {
        begins = edge_of _ c.args.self.now.ok _ _ at (rw first at c.if-index-range.false);
        ends = edge_of _ c.args.self.now.ok _ _ at_end (rw end at c.if-index-range-2.false);
      },
      refl,
    )

pub returns-in_err-cut-clause-err_only : goal.returns-in_err-cut-clause-err_only
returns-in_err-cut-clause-err_only g c =
    let at = rw c.deref.ensures.value at c.place-i.ensures in
    let slot = read_slot c.args.self.now.slots.items c.place-i.result c.index.result.now at.within c.index.ensures in
    let inside = rw slot at c.if-index-range.true in
    on_err _ (inl (no_edge _ c.args.self.now.ok _ _ at inside))

pub returns-in_err-cut-2-clause-err_only : goal.returns-in_err-cut-2-clause-err_only
returns-in_err-cut-2-clause-err_only g c =
    let at = rw c.deref-2.ensures.value at c.place-j.ensures in
    let slot = read_slot c.args.self.now.slots.items c.place-j.result c.index-2.result.now at.within c.index-2.ensures in
    let inside = rw slot at c.if-index-range-2.true in
    on_err _ (inr (no_edge _ c.args.self.now.ok _ _ at inside))

pub invariant_of-self : goal.invariant_of-self
invariant_of-self g c = record { ok = c.cut.ensures.list; laws = list_laws _ c.cut.ensures.list }

pub invariant_of-self-then-index-range-2 : goal.invariant_of-self-then-index-range-2
invariant_of-self-then-index-range-2 g c = record { ok = c.cut-then-index-range-2.ensures.list; laws = list_laws _ c.cut-then-index-range-2.ensures.list }
