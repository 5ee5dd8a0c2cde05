use Rattle.std.proofs.Common.{ℕ, ◌*◌, ◌<◌, sym, ap, ◌∙◌, subst, rules}
use Rattle.radix_node.specs.declared.node.Slot.TheVariants.{Own}
use Rattle.radix_node.specs.State.{State, state_of}
use Rattle.radix_node.specs.Run.{Cell, width_of, cell_at, in_state, with_run, FitsWidth}
use Rattle.radix_node.specs.Node.{Parts, runs, flatten}
use Rattle.radix_node.specs.Slots.{parts_of}
use Rattle.radix_node.specs.Lock.{Meets, after_lock}
use Rattle.radix_node.proofs.Flat.{IsPlace, cell_at-Own, cell_at-Child, child_level, child_pages, child_node, is_node-set, runs-Own, runs-Child, whole-node}
use Rattle.radix_node.proofs.Locks.{lock_sound}
use Rattle.radix_node.proofs.node.Node.+lock_at.Goals as goal

pub lock_at-requires : goal.lock_at-requires
lock_at-requires g t c κs within =
    let is = sym c.in-Child.is ∙ c.index_mut.ensures.value in
    let p = c.place_of-place.ensures in
    let e = c.deref_mut.ensures.value in
    let w = child_pages _ c.in-Child.node c.deref_mut.result.now c.self.invariant p.slot is e in
    let lower = child_level _ c.in-Child.node c.deref_mut.result.now c.self.invariant p.slot is e in
    let here = ap (λ (v : Parts). v.level) c.self.view_is in
    search rules

pub invariant_of-self : goal.invariant_of-self
invariant_of-self g t c =
    let is = sym c.in-Own.is ∙ c.index_mut.ensures.value in
    let p = c.place_of-place.ensures in
    let at : IsPlace _ c.args.page _ _ =
    record { slot_in = p.slot; page_is = p.page; rest_in = p.rest } in
    let here = ap (λ (v : Parts). v.level) c.self.view_is in
    let cell = cell_at-Own _ c.in-Own.own c.self.invariant at is in
    let within = subst (λ (l : ℕ). c.args.page < 512 * width_of l) (sym here) c.requires in
    let was =
    subst (λ (x : Cell). FitsWidth x.width x.state) cell
    ((whole-node _ _ c.self.invariant).cells c.args.page within).sound in
    is_node-set c.self.inside.level c.place_of-place.result.slot c.self.inside.slots.items
    (Own c.lock.new.self) c.self.invariant tt
    (subst (λ (s : State). FitsWidth (width_of c.self.inside.level) s) (sym c.lock.ensures.state)
    (lock_sound _ c.args.core c.lock.result _ was))

pub returns-in-Own-clause-whole : goal.returns-in-Own-clause-whole
returns-in-Own-clause-whole g t c = whole-node c.self.inside.level _ (invariant_of-self g t c)

pub returns-in-Own-clause-meets : goal.returns-in-Own-clause-meets
returns-in-Own-clause-meets g t c =
    let is = sym c.in-Own.is ∙ c.index_mut.ensures.value in
    let p = c.place_of-place.ensures in
    let at : IsPlace _ c.args.page _ _ =
    record { slot_in = p.slot; page_is = p.page; rest_in = p.rest } in
    let cell = cell_at-Own _ c.in-Own.own c.self.invariant at is in
    let wide =
    subst
    (λ w. Meets (record { state = state_of c.in-Own.own; offset = c.place_of-place.result.rest; width = w }) c.args.room c.lock.result)
    c.slot_pages-width.ensures c.lock.ensures.meets in
    rw (← c.self.view_is) (subst (λ (x : Cell). Meets x c.args.room c.lock.result) (sym cell) wide)

pub returns-in-Own-clause-set : goal.returns-in-Own-clause-set
returns-in-Own-clause-set g t c =
    let is = sym c.in-Own.is ∙ c.index_mut.ensures.value in
    let p = c.place_of-place.ensures in
    let at : IsPlace _ c.args.page _ _ =
    record { slot_in = p.slot; page_is = p.page; rest_in = p.rest } in
    let cell = cell_at-Own _ c.in-Own.own c.self.invariant at is in
    let e =
    c.lock.ensures.state
    ∙ ap (λ (x : Cell). after_lock c.lock.result c.args.core x.state) (sym cell) in
    rw (← c.self.view_is)
    (runs-Own _ c.in-Own.own c.lock.new.self c.self.invariant at is
    ∙ ap
    (λ (s : State). with_run (in_state s) (flatten (width_of c.self.inside.level) (parts_of c.self.inside.slots.items)) c.args.page)
    e)

pub invariant_of-self-2 : goal.invariant_of-self-2
invariant_of-self-2 g t c =
    let is = sym c.in-Child.is ∙ c.index_mut.ensures.value in
    child_node _ c.in-Child.node _ c.deref_mut.result.now c.self.invariant
    c.place_of-place.ensures.slot is c.deref_mut.ensures.value c.lock_at.ensures.level
    c.lock_at.ensures.whole

pub returns-clause-whole : goal.returns-clause-whole
returns-clause-whole g t c = whole-node c.self.inside.level _ (invariant_of-self-2 g t c)

pub returns-clause-meets : goal.returns-clause-meets
returns-clause-meets g t c =
    let is = sym c.in-Child.is ∙ c.index_mut.ensures.value in
    let p = c.place_of-place.ensures in
    let at : IsPlace _ c.args.page _ _ =
    record { slot_in = p.slot; page_is = p.page; rest_in = p.rest } in
    let below =
    cell_at-Child _ c.in-Child.node c.self.invariant at is
    ∙ ap (λ v. cell_at (runs v) c.place_of-place.result.rest) (sym c.deref_mut.ensures.value) in
    rw (← c.self.view_is)
    (subst (λ (x : Cell). Meets x c.args.room c.lock_at.result) (sym below) c.lock_at.ensures.meets)

pub returns-clause-set : goal.returns-clause-set
returns-clause-set g t c =
    let is = sym c.in-Child.is ∙ c.index_mut.ensures.value in
    let p = c.place_of-place.ensures in
    let at : IsPlace _ c.args.page _ _ =
    record { slot_in = p.slot; page_is = p.page; rest_in = p.rest } in
    let below =
    cell_at-Child _ c.in-Child.node c.self.invariant at is
    ∙ ap (λ v. cell_at (runs v) c.place_of-place.result.rest) (sym c.deref_mut.ensures.value) in
    let set =
    c.lock_at.ensures.set
    ∙ ap
    (λ (x : Cell). with_run (in_state (after_lock c.lock_at.result c.args.core x.state)) (runs c.deref_mut.result.now) c.place_of-place.result.rest)
    (sym below) in
    rw (← c.self.view_is)
    (runs-Child
    (in_state
    (after_lock c.lock_at.result c.args.core
    (cell_at (flatten (width_of c.self.inside.level) (parts_of c.self.inside.slots.items)) c.args.page).state))
    _ c.in-Child.node _ c.deref_mut.result.now c.self.invariant at is c.deref_mut.ensures.value set)
