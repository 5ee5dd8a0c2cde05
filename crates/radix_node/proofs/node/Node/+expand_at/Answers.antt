use Rattle.std.proofs.Common.{◌<◌, sym, ap, ◌∙◌, subst, rules}
use Rattle.radix_node.specs.declared.node.Slot.TheVariants.{Child}
use Rattle.radix_node.specs.Run.{Cell, cell_at, in_parts}
use Rattle.radix_node.specs.Node.{Parts, runs}
use Rattle.radix_node.specs.Slots.{parts_of}
use Rattle.radix_node.proofs.Flat.{IsPlace, cell_at-Own, cell_at-Child, child_level, child_pages, child_node, runs-Child, whole-node, same_slots, same_child}
use Rattle.radix_node.proofs.Folds.{runs-Expands, own_is_own, large_level}
use Rattle.slot_lock.proofs.Facts.{ok_along, err_along}
use Rattle.radix_node.proofs.node.Node.+expand_at.Goals as goal

pub expand_at-requires : goal.expand_at-requires
expand_at-requires g t c κs within =
    let is = sym c.in-Child.is ∙ c.index_mut.ensures.value in
    let p = c.place_of-place.ensures in
    let at : IsPlace _ c.args.page _ _ = record { slot_in = p.slot; page_is = p.page; rest_in = p.rest } in
    let e = c.deref_mut.ensures.value in
    let w = child_pages _ c.in-Child.node c.deref_mut.result.now c.self.invariant p.slot is e in
    let lower = child_level _ c.in-Child.node c.deref_mut.result.now c.self.invariant p.slot is e in
    let here = ap (λ (v : Parts). v.level) c.self.view_is in
    let same = ap (λ (v : Parts). cell_at (runs v) c.place_of-place.result.rest) e
    ∙ sym (cell_at-Child _ c.in-Child.node c.self.invariant at is) ∙ ap (λ v. cell_at (runs v) c.args.page) c.self.view_is in
    let large = subst (λ (x : Cell). 1 < x.width) (sym same) c.requires.large in
    search rules

pub invariant_of-self : goal.invariant_of-self
invariant_of-self g t c =
    let is = sym c.in-Child.is ∙ c.index_mut.ensures.value in
    child_node _ c.in-Child.node _ c.deref_mut.result.now c.self.invariant c.place_of-place.ensures.slot is c.deref_mut.ensures.value
    c.expand_at.ensures.level c.expand_at.ensures.whole

pub returns-in-Child-clause-whole : goal.returns-in-Child-clause-whole
returns-in-Child-clause-whole g t c = whole-node c.self.inside.level _ (invariant_of-self g t c)

pub returns-in-Child-clause-ok : goal.returns-in-Child-clause-ok
returns-in-Child-clause-ok g t c =
    let is = sym c.in-Child.is ∙ c.index_mut.ensures.value in
    let p = c.place_of-place.ensures in
    let at : IsPlace _ c.args.page _ _ = record { slot_in = p.slot; page_is = p.page; rest_in = p.rest } in
    rw (← c.self.view_is)
    (ok_along c.expand_at.result
    (runs-Child in_parts _ c.in-Child.node _ c.deref_mut.result.now c.self.invariant at is c.deref_mut.ensures.value)
    c.expand_at.ensures.ok)

pub returns-in-Child-clause-err : goal.returns-in-Child-clause-err
returns-in-Child-clause-err g t c =
    let is = sym c.in-Child.is ∙ c.index_mut.ensures.value in
    let e = c.deref_mut.ensures.value in
    rw (← c.self.view_is)
    (err_along c.expand_at.result (λ q. ap (λ x. record { level = c.self.inside.level; parts = x })
    (same_child c.place_of-place.result.slot c.self.inside.slots.items _ c.in-Child.node _ is
    (ap (λ v. Child (record c.in-Child.node { value = v })) (q ∙ e)))) c.expand_at.ensures.err)

pub expand-requires-clause-above : goal.expand-requires-clause-above
expand-requires-clause-above g t c =
    let is = sym c.in-Own.is ∙ c.index_mut.ensures.value in
    let p = c.place_of-place.ensures in
    let at : IsPlace _ c.args.page _ _ = record { slot_in = p.slot; page_is = p.page; rest_in = p.rest } in
    let same = ap (λ v. cell_at (runs v) c.args.page) (sym c.self.view_is) ∙ cell_at-Own _ _ c.self.invariant at is in
    large_level c.self.inside.level (subst (λ (x : Cell). 1 < x.width) same c.requires.large)

pub expand-requires-clause-own : goal.expand-requires-clause-own
expand-requires-clause-own g t c =
    let is = sym c.in-Own.is ∙ c.index_mut.ensures.value in
    let same = same_slots c.place_of-place.result.slot c.self.inside.slots.items _ c.index_mut.result.now c.index_mut.ensures.value in
    rw same (own_is_own c.self.inside.level c.place_of-place.result.slot c.self.inside.slots.items _ c.in-Own.field-0 c.self.invariant
    c.place_of-place.ensures.slot is)

pub returns-in-Own-clause-ok : goal.returns-in-Own-clause-ok
returns-in-Own-clause-ok g t c =
    let is = sym c.in-Own.is ∙ c.index_mut.ensures.value in
    let p = c.place_of-place.ensures in
    let at : IsPlace _ c.args.page _ _ = record { slot_in = p.slot; page_is = p.page; rest_in = p.rest } in
    let same = same_slots c.place_of-place.result.slot c.self.inside.slots.items _ c.index_mut.result.now c.index_mut.ensures.value in
    let o = ap (λ xs. let v : Parts = record { level = c.self.inside.level; parts = parts_of xs } in v) same in
    let large = subst (λ (x : Cell). 1 < x.width) (ap (λ v. cell_at (runs v) c.args.page) (sym c.self.view_is)
    ∙ cell_at-Own _ _ c.self.invariant at is) c.requires.large in
    rw (← c.self.view_is) (ok_along c.expand.result (runs-Expands _ c.in-Own.field-0 _ c.expand.new.self c.self.invariant at is o
    (large_level c.self.inside.level large)) c.expand.ensures.ok)
