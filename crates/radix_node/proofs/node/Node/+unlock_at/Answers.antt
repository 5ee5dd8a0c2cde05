use Rattle.std.proofs.Common.{ℕ, None, ◌*◌, ◌<◌, sym, ap, ◌∙◌, subst, rules}
use Rattle.radix_node.specs.declared.node.Slot.TheVariants.{Own}
use Rattle.radix_node.specs.State.{State}
use Rattle.radix_node.specs.Run.{Cell, width_of, cell_at, in_state, with_run, FitsWidth}
use Rattle.radix_node.specs.Node.{Parts, runs, flatten}
use Rattle.radix_node.specs.Slots.{parts_of}
use Rattle.radix_node.proofs.Flat.{IsPlace, cell_at-Own, cell_at-Child, child_level, child_pages, child_node, is_node-set, runs-Own, runs-Child, whole-node}
use Rattle.radix_node.proofs.Locks.{owner_sound}
use Rattle.radix_node.proofs.node.Node.+unlock_at.Goals as goal

pub unlock_at-requires : goal.unlock_at-requires
unlock_at-requires g t c κs within =
    let is = sym c.in-Child.is ∙ c.index_mut.ensures.value in
    let p = c.place_of-place.ensures in
    let e = c.deref_mut.ensures.value in
    let w = child_pages _ c.in-Child.node c.deref_mut.result.now c.self.invariant p.slot is e in
    let lower = child_level _ c.in-Child.node c.deref_mut.result.now c.self.invariant p.slot is e in
    let here = ap (λ (v : Parts). v.level) c.self.view_is in
    search rules

pub invariant_of-self : goal.invariant_of-self
invariant_of-self g t c =
    let is = sym c.in-Own.is ∙ c.index_mut.ensures.value in
    let p = c.place_of-place.ensures in
    let at : IsPlace _ c.args.page _ _ = record { slot_in = p.slot; page_is = p.page; rest_in = p.rest } in
    let here = ap (λ (v : Parts). v.level) c.self.view_is in
    let cell = cell_at-Own _ c.in-Own.own c.self.invariant at is in
    let within = subst (λ (l : ℕ). c.args.page < 512 * width_of l) (sym here) c.requires in
    let was = subst (λ (x : Cell). FitsWidth x.width x.state) cell ((whole-node _ _ c.self.invariant).cells c.args.page within).sound in
    is_node-set c.self.inside.level c.place_of-place.result.slot c.self.inside.slots.items (Own c.set_owner.new.self) c.self.invariant tt
    (subst (λ (s : State). FitsWidth (width_of c.self.inside.level) s) (sym c.set_owner.ensures) (owner_sound _ _ None was))

pub returns-in-Own-clause-whole : goal.returns-in-Own-clause-whole
returns-in-Own-clause-whole g t c = whole-node c.self.inside.level _ (invariant_of-self g t c)

pub returns-in-Own-clause-set : goal.returns-in-Own-clause-set
returns-in-Own-clause-set g t c =
    let is = sym c.in-Own.is ∙ c.index_mut.ensures.value in
    let p = c.place_of-place.ensures in
    let at : IsPlace _ c.args.page _ _ = record { slot_in = p.slot; page_is = p.page; rest_in = p.rest } in
    let cell = cell_at-Own _ c.in-Own.own c.self.invariant at is in
    let e = c.set_owner.ensures ∙ ap (λ (x : Cell). record { info = x.state.info; owner = None }) (sym cell) in
    rw (← c.self.view_is) (runs-Own _ c.in-Own.own c.set_owner.new.self c.self.invariant at is
    ∙ ap (λ (s : State). with_run (in_state s) (flatten (width_of c.self.inside.level) (parts_of c.self.inside.slots.items))
    c.args.page) e)

pub returns-in-Own-clause-width : goal.returns-in-Own-clause-width
returns-in-Own-clause-width g t c =
    let is = sym c.in-Own.is ∙ c.index_mut.ensures.value in
    let p = c.place_of-place.ensures in
    let at : IsPlace _ c.args.page _ _ = record { slot_in = p.slot; page_is = p.page; rest_in = p.rest } in
    rw (← c.self.view_is) (sym (ap (λ (x : Cell). x.width) (cell_at-Own _ c.in-Own.own c.self.invariant at is)))

pub invariant_of-self-2 : goal.invariant_of-self-2
invariant_of-self-2 g t c =
    let is = sym c.in-Child.is ∙ c.index_mut.ensures.value in
    child_node _ c.in-Child.node _ c.deref_mut.result.now c.self.invariant c.place_of-place.ensures.slot is c.deref_mut.ensures.value
    c.unlock_at.ensures.level c.unlock_at.ensures.whole

pub returns-clause-whole : goal.returns-clause-whole
returns-clause-whole g t c = whole-node c.self.inside.level _ (invariant_of-self-2 g t c)

pub returns-clause-set : goal.returns-clause-set
returns-clause-set g t c =
    let is = sym c.in-Child.is ∙ c.index_mut.ensures.value in
    let p = c.place_of-place.ensures in
    let at : IsPlace _ c.args.page _ _ = record { slot_in = p.slot; page_is = p.page; rest_in = p.rest } in
    let below = cell_at-Child _ c.in-Child.node c.self.invariant at is ∙ ap (λ v. cell_at (runs v) c.place_of-place.result.rest)
    (sym c.deref_mut.ensures.value) in
    let set = c.unlock_at.ensures.set ∙ ap (λ (x : Cell). with_run (in_state (record { info = x.state.info; owner = None }))
    (runs c.deref_mut.result.now) c.place_of-place.result.rest) (sym below) in
    rw (← c.self.view_is)
    (runs-Child
    (in_state
    (record {
      info = (cell_at (flatten (width_of c.self.inside.level) (parts_of c.self.inside.slots.items)) c.args.page).state.info;
      owner = None;
    })) _ c.in-Child.node _ c.deref_mut.result.now c.self.invariant at is c.deref_mut.ensures.value set)

pub returns-clause-width : goal.returns-clause-width
returns-clause-width g t c =
    let is = sym c.in-Child.is ∙ c.index_mut.ensures.value in
    let p = c.place_of-place.ensures in
    let at : IsPlace _ c.args.page _ _ = record { slot_in = p.slot; page_is = p.page; rest_in = p.rest } in
    let below = cell_at-Child _ c.in-Child.node c.self.invariant at is ∙ ap (λ v. cell_at (runs v) c.place_of-place.result.rest)
    (sym c.deref_mut.ensures.value) in
    rw (← c.self.view_is) (c.unlock_at.ensures.width ∙ sym (ap (λ (x : Cell). x.width) below))
