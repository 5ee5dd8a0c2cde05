use Rattle.std.proofs.Common.{◌-◌, ◌*◌, sym, ap, ◌∙◌, arith}
use Rattle.radix_node.specs.State.{state_of}
use Rattle.radix_node.specs.Run.{width_of, IsWhole}
use Rattle.radix_node.specs.Node.{Parts, runs}
use Rattle.radix_node.proofs.Flat.{whole-node}
use Rattle.radix_node.proofs.Folds.{can_divide, new_child, expands}
use Rattle.radix_node.proofs.node.Node.expand.Goals as goal

pub returns-in_default-clause-whole : goal.returns-in_default-clause-whole
returns-in_default-clause-whole g c = rw (← c.self.view_is) (whole-node c.self.inside.level c.self.inside.slots.items c.self.invariant)

pub returns-in_default-clone-clause-whole : goal.returns-in_default-clone-clause-whole
returns-in_default-clone-clause-whole g c = rw (← c.self.view_is) (whole-node c.self.inside.level c.self.inside.slots.items c.self.invariant)

pub returns-in-Err-clause-whole : goal.returns-in-Err-clause-whole
returns-in-Err-clause-whole g c = rw (← c.self.view_is) (whole-node c.self.inside.level c.self.inside.slots.items c.self.invariant)

pub divided-requires-clause-large : goal.divided-requires-clause-large
divided-requires-clause-large g c =
    let lv = ap (λ (v : Parts). v.level) c.self.view_is in
    (can_divide c.self.inside.level (c.self.inside.level - 1) c.args.slot c.self.inside.slots.items _ c.in-Own.state c.self.invariant
    c.requires.slot (sym c.in-Own.is ∙ c.index.ensures) (omega arith)).no_leaf

pub divided-requires-clause-fits : goal.divided-requires-clause-fits
divided-requires-clause-fits g c =
    let lv = ap (λ (v : Parts). v.level) c.self.view_is in
    (can_divide c.self.inside.level (c.self.inside.level - 1) c.args.slot c.self.inside.slots.items _ c.in-Own.state c.self.invariant
    c.requires.slot (sym c.in-Own.is ∙ c.index.ensures) (omega arith)).fits

pub invariant_of-self : goal.invariant_of-self
invariant_of-self g c =
    let lv = ap (λ (v : Parts). v.level) c.self.view_is in
    let e = c.in-Ok-new.ensures.ok in
    let whole : IsWhole c.in-Ok-new.node.value.level (512 * width_of c.in-Ok-new.node.value.level) (runs c.in-Ok-new.node.value) =
    rw e c.in-Ok-divided.ensures.whole in
    new_child c.self.inside.level c.args.slot c.self.inside.slots.items c.in-Ok-new.node (state_of c.in-Own.state) c.self.invariant
    (omega arith) (e ∙ c.in-Ok-divided.ensures.is) whole

pub returns-in-Ok-new-clause-whole : goal.returns-in-Ok-new-clause-whole
returns-in-Ok-new-clause-whole g c = whole-node c.self.inside.level _ (invariant_of-self g c)

pub returns-in-Ok-new-clause-ok : goal.returns-in-Ok-new-clause-ok
returns-in-Ok-new-clause-ok g c =
    rw (← c.self.view_is) (expands c.self.inside.level c.args.slot c.self.inside.slots.items _ c.in-Own.state c.in-Ok-new.node
    c.self.invariant c.requires.slot (sym c.in-Own.is ∙ c.index.ensures) (c.in-Ok-new.ensures.ok ∙ c.in-Ok-divided.ensures.is))

pub returns-clause-whole : goal.returns-clause-whole
returns-clause-whole g c = rw (← c.self.view_is) (whole-node c.self.inside.level c.self.inside.slots.items c.self.invariant)
