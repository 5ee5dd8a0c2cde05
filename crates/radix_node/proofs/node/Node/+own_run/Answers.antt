use Rattle.std.proofs.Common.{◌≡◌, ◌+◌, ◌*◌, ◌≤◌, sym, ap, ◌∙◌, subst, rules, arith}
use Rattle.radix_node.specs.Run.{width_of}
use Rattle.radix_node.specs.Node.{Parts, flatten}
use Rattle.radix_node.specs.Slots.{parts_of, IsNode}
use Rattle.radix_node.proofs.Divided.{part_ends}
use Rattle.radix_node.proofs.Flat.{IsPlace, child_level, child_pages, child_node, whole-node, same_slots}
use Rattle.radix_node.proofs.OwnedRuns.{in_child, slots_within}
use Rattle.radix_node.proofs.node.Node.+own_run.Goals as goal

pub own_run-requires : goal.own_run-requires
own_run-requires g t c κs within =
    let is = sym c.in-Child.is ∙ c.index_mut.ensures.value in
    let p = c.place_of-place.ensures in
    let e = c.deref_mut.ensures.value in
    let w = child_pages _ c.in-Child.node c.deref_mut.result.now c.self.invariant p.slot is e in
    let lower = child_level _ c.in-Child.node c.deref_mut.result.now c.self.invariant p.slot is e in
    let here = ap (λ (v : Parts). v.level) c.self.view_is in
    search rules

pub invariant_of-self : goal.invariant_of-self
invariant_of-self g t c =
    let is = sym c.in-Child.is ∙ c.index_mut.ensures.value in
    child_node _ c.in-Child.node _ c.deref_mut.result.now c.self.invariant
    c.place_of-place.ensures.slot is c.deref_mut.ensures.value c.own_run.ensures.level
    c.own_run.ensures.whole

pub invariant_of-self-then-place-gt0 : goal.invariant_of-self-then-place-gt0
invariant_of-self-then-place-gt0 g t c =
    subst (IsNode c.self.inside.level)
    (sym (same_slots c.place_of-place.result.slot c.self.inside.slots.items _ c.index_mut.result.now c.index_mut.ensures.value)) c.self.invariant

pub invariant_of-self-in-Own : goal.invariant_of-self-in-Own
invariant_of-self-in-Own g t c =
    subst (IsNode c.self.inside.level)
    (sym (same_slots c.place_of-place.result.slot c.self.inside.slots.items _ c.index_mut.result.now c.index_mut.ensures.value)) c.self.invariant

pub returns-then-place-gt0-clause-owners : goal.returns-then-place-gt0-clause-owners
returns-then-place-gt0-clause-owners g t c =
    rw (← c.self.view_is)
    (ap (λ ss. flatten (width_of c.self.inside.level) (parts_of ss))
    (same_slots c.place_of-place.result.slot c.self.inside.slots.items _ c.index_mut.result.now c.index_mut.ensures.value))

pub returns-then-place-gt0-clause-whole : goal.returns-then-place-gt0-clause-whole
returns-then-place-gt0-clause-whole g t c =
    let ss = c.self.inside.slots.items in
    whole-node c.self.inside.level _
    (subst (IsNode c.self.inside.level)
    (sym (same_slots c.place_of-place.result.slot ss _ c.index_mut.result.now c.index_mut.ensures.value)) c.self.invariant)

pub returns-in-Child-clause-whole : goal.returns-in-Child-clause-whole
returns-in-Child-clause-whole g t c = whole-node c.self.inside.level _ (invariant_of-self g t c)

pub returns-in-Child-clause-within : goal.returns-in-Child-clause-within
returns-in-Child-clause-within g t c =
    let is = sym c.in-Child.is ∙ c.index_mut.ensures.value in
    let p = c.place_of-place.ensures in
    let w = child_pages _ c.in-Child.node c.deref_mut.result.now c.self.invariant p.slot is c.deref_mut.ensures.value in
    let ends = part_ends (width_of c.self.inside.level) c.place_of-place.result.slot p.slot in
    let here = ap (λ (v : Parts). 512 * width_of v.level) c.self.view_is in
    omega (arith, c.own_run.ensures.within, p.page, w, ends, here)

pub returns-in-Child-clause-owners : goal.returns-in-Child-clause-owners
returns-in-Child-clause-owners g t c =
    let is = sym c.in-Child.is ∙ c.index_mut.ensures.value in
    let p = c.place_of-place.ensures in
    let at : IsPlace _ c.args.page _ _ =
    record { slot_in = p.slot; page_is = p.page; rest_in = p.rest } in
    let e = c.deref_mut.ensures.value in
    let w = child_pages _ c.in-Child.node c.deref_mut.result.now c.self.invariant p.slot is e in
    rw (← c.self.view_is)
    (in_child _ c.in-Child.node _ c.deref_mut.result.now c.own_run.result.width c.own_run.result.slots c.args.owners.now
    c.self.invariant at is e (omega (arith, c.own_run.ensures.within, w)) c.own_run.ensures.owners)

pub returns-else-place-gt0-clause-within : goal.returns-else-place-gt0-clause-within
returns-else-place-gt0-clause-within g t c =
    let n = c.own_slots-slots.result in
    let p = c.place_of-place.ensures in
    let few : c.place_of-place.result.slot + n ≤ 512 =
    omega (arith, c.own_slots-slots.ensures.few, c.min.ensures, c.min-in-Own.ensures, p.slot) in
    let all = slots_within c.self.inside.level c.place_of-place.result.slot n few in
    let wide : n * c.slot_pages-width.result ≡ n * width_of c.self.inside.level = ap (λ w. n * w) c.slot_pages-width.ensures in
    let here = ap (λ (v : Parts). 512 * width_of v.level) c.self.view_is in
    omega (arith, all, wide, here, p.page, c.if-place-gt0.false)
