use Rattle.std.proofs.Common.{◌<◌, ◌≤◌, sym, ap, ◌∙◌, rules, arith}
use Rattle.radix_node.specs.declared.node.Slot.TheVariants.{Child}
use Rattle.radix_node.specs.Run.{width_of, cell_at}
use Rattle.radix_node.specs.Node.{Parts, runs}
use Rattle.radix_node.specs.Slots.{parts_of}
use Rattle.radix_node.proofs.Flat.{IsPlace, child_level, child_pages, child_node, whole-node, same_slots, same_child}
use Rattle.radix_node.proofs.Folds.{runs-FoldsSlot, folds-Child, own_no_join, child_can_fold, below_can_join}
use Rattle.radix_node.proofs.node.Node.+fold_at.Goals as goal

pub is_below-requires : goal.is_below-requires
is_below-requires g t c =
    let is = sym c.in-Child.is ∙ c.index_mut.ensures.value in
    let p = c.place_of-place.ensures in
    let w = child_pages _ c.in-Child.node c.deref.result.now c.self.invariant p.slot is c.deref.ensures in
    omega (arith, p.rest)

pub fold_at-requires : goal.fold_at-requires
fold_at-requires g t c κs within =
    let is = sym c.in-Child.is ∙ c.index_mut.ensures.value in
    let p = c.place_of-place.ensures in
    let e = c.deref_mut.ensures.value in
    let w = child_pages _ c.in-Child.node c.deref_mut.result.now c.self.invariant p.slot is e in
    let lower = child_level _ c.in-Child.node c.deref_mut.result.now c.self.invariant p.slot is e in
    let here = ap (λ (v : Parts). v.level) c.self.view_is in
    search rules

pub invariant_of-self-then-is_below : goal.invariant_of-self-then-is_below
invariant_of-self-then-is_below g t c =
    let is = sym c.in-Child.is ∙ c.index_mut.ensures.value in
    child_node _ c.in-Child.node _ c.deref_mut.result.now c.self.invariant c.place_of-place.ensures.slot is c.deref_mut.ensures.value
    c.fold_at.ensures.level c.fold_at.ensures.whole

pub returns-in-Own-clause-whole : goal.returns-in-Own-clause-whole
returns-in-Own-clause-whole g t c =
    let same = same_slots c.place_of-place.result.slot c.self.inside.slots.items _ c.index_mut.result.now c.index_mut.ensures.value in
    rw same (whole-node c.self.inside.level c.self.inside.slots.items c.self.invariant)

pub returns-then-is_below-clause-whole : goal.returns-then-is_below-clause-whole
returns-then-is_below-clause-whole g t c = whole-node c.self.inside.level _ (invariant_of-self-then-is_below g t c)

pub returns-then-is_below-clause-folded : goal.returns-then-is_below-clause-folded
returns-then-is_below-clause-folded g t c = λ yes.
    let is = sym c.in-Child.is ∙ c.index_mut.ensures.value in
    let p = c.place_of-place.ensures in
    let at : IsPlace _ c.args.page _ _ = record { slot_in = p.slot; page_is = p.page; rest_in = p.rest } in
    rw (← c.self.view_is) (folds-Child c.self.inside.level c.args.page c.place_of-place.result.slot c.place_of-place.result.rest
    c.self.inside.slots.items _ c.in-Child.node _ c.deref_mut.result.now c.self.invariant at is c.deref_mut.ensures.value
    (invariant_of-self-then-is_below g t c) (c.fold_at.ensures.folded yes))

pub returns-then-is_below-clause-same : goal.returns-then-is_below-clause-same
returns-then-is_below-clause-same g t c = λ none.
    let is = sym c.in-Child.is ∙ c.index_mut.ensures.value in
    let e = c.deref_mut.ensures.value in
    rw (← c.self.view_is) (ap (λ x. record { level = c.self.inside.level; parts = x })
    (same_child c.place_of-place.result.slot c.self.inside.slots.items _ c.in-Child.node _ is
    (ap (λ v. Child (record c.in-Child.node { value = v })) (c.fold_at.ensures.same none ∙ e))))

pub returns-else-is_below-clause-folded : goal.returns-else-is_below-clause-folded
returns-else-is_below-clause-folded g t c = λ yes.
    let is = sym c.in-Child.is ∙ c.index_mut.ensures.value in
    let p = c.place_of-place.ensures in
    let at : IsPlace _ c.args.page _ _ = record { slot_in = p.slot; page_is = p.page; rest_in = p.rest } in
    let same = same_slots c.place_of-place.result.slot c.self.inside.slots.items _ (Child c.in-Child.node) is in
    let o = ap (λ xs. let v : Parts = record { level = c.self.inside.level; parts = parts_of xs } in v) same in
    rw (← c.self.view_is) (runs-FoldsSlot c.self.inside.level c.args.page c.place_of-place.result.slot c.place_of-place.result.rest
    c.self.inside.slots.items _ c.in-Child.node _ c.fold.new.self c.self.invariant at is o (c.fold.ensures.folded yes))

pub returns-in-Own-clause-only : goal.returns-in-Own-clause-only
returns-in-Own-clause-only g t c = λ _ can.
    let is = sym c.in-Own.is ∙ c.index_mut.ensures.value in
    let p = c.place_of-place.ensures in
    let at : IsPlace _ c.args.page _ _ = record { slot_in = p.slot; page_is = p.page; rest_in = p.rest } in
    own_no_join _ c.in-Own.field-0 c.args.self.now c.self.invariant at is c.self.view_is can

pub returns-then-is_below-clause-only : goal.returns-then-is_below-clause-only
returns-then-is_below-clause-only g t c = λ no can.
    let is = sym c.in-Child.is ∙ c.index_mut.ensures.value in
    let p = c.place_of-place.ensures in
    let at : IsPlace _ c.args.page _ _ = record { slot_in = p.slot; page_is = p.page; rest_in = p.rest } in
    let e = c.deref_mut.ensures.value in
    let thin : (cell_at (runs c.deref_mut.result.now) c.place_of-place.result.rest).width < width_of c.deref_mut.result.now.level =
    rw (e, ← c.deref.ensures) (c.is_below.ensures.0 c.if-is_below.true) in
    c.fold_at.ensures.only no (below_can_join _ c.in-Child.node c.deref_mut.result.now c.args.self.now c.self.invariant at is c.self.view_is e thin can)

pub returns-else-is_below-clause-only : goal.returns-else-is_below-clause-only
returns-else-is_below-clause-only g t c = λ no can.
    let is = sym c.in-Child.is ∙ c.index_mut.ensures.value in
    let p = c.place_of-place.ensures in
    let at : IsPlace _ c.args.page _ _ = record { slot_in = p.slot; page_is = p.page; rest_in = p.rest } in
    let wide : width_of c.deref.result.now.level ≤ (cell_at (runs c.deref.result.now) c.place_of-place.result.rest).width = search rules in
    let same = same_slots c.place_of-place.result.slot c.self.inside.slots.items _ (Child c.in-Child.node) is in
    let o = ap (λ xs. let v : Parts = record { level = c.self.inside.level; parts = parts_of xs } in v) same ∙ c.self.view_is in
    let fold = child_can_fold _ c.in-Child.node c.deref.result.now c.args.self.now c.self.invariant at is c.self.view_is c.deref.ensures wide can in
    c.fold.ensures.only no fold.0 (rw o fold.1)
