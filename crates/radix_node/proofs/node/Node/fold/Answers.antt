use Rattle.std.proofs.Common.{sym, ◌∙◌}
use Rattle.radix_node.proofs.Flat.{whole-node}
use Rattle.radix_node.proofs.Folds.{own_no_fold, child_carried, fold_node, folds_slot}
use Rattle.radix_node.proofs.node.Node.fold.Goals as goal

pub returns-in-Own-clause-whole : goal.returns-in-Own-clause-whole
returns-in-Own-clause-whole g c = rw (← c.self.view_is) (whole-node c.self.inside.level c.self.inside.slots.items c.self.invariant)

pub returns-in-Own-clause-only : goal.returns-in-Own-clause-only
returns-in-Own-clause-only g c = λ _ s can.
    own_no_fold c.self.inside.level c.args.slot c.self.inside.slots.items _ c.in-Own.field-0 _ c.self.invariant c.requires (sym c.in-Own.is
    ∙ c.index.ensures) c.self.view_is s can

pub returns-in_default-clause-whole : goal.returns-in_default-clause-whole
returns-in_default-clause-whole g c = rw (← c.self.view_is) (whole-node c.self.inside.level c.self.inside.slots.items c.self.invariant)

pub returns-in_default-clause-only : goal.returns-in_default-clause-only
returns-in_default-clause-only g c = λ _ s can.
    let e = child_carried c.self.inside.level c.args.slot c.self.inside.slots.items _ c.in-Child.node c.deref.result.now _ c.self.invariant
    c.requires (sym c.in-Child.is ∙ c.index.ensures) c.self.view_is c.deref.ensures s can in
    c.in_default.ensures.none s can.plain e

pub invariant_of-self : goal.invariant_of-self
invariant_of-self g c =
    fold_node c.self.inside.level c.args.slot c.self.inside.slots.items _ c.in-Child.node c.deref.result.now c.in-Some.state
    c.self.invariant c.requires (sym c.in-Child.is ∙ c.index.ensures) c.deref.ensures c.in-Some.ensures.sound

pub returns-clause-whole : goal.returns-clause-whole
returns-clause-whole g c = whole-node c.self.inside.level _ (invariant_of-self g c)

pub returns-clause-folded : goal.returns-clause-folded
returns-clause-folded g c = λ _.
    folds_slot c.self.inside.level c.args.slot c.self.inside.slots.items _ c.in-Child.node c.deref.result.now c.args.self.now
    c.in-Some.state c.self.invariant c.requires (sym c.in-Child.is ∙ c.index.ensures) c.self.view_is c.deref.ensures
    c.in-Some.ensures.some.0 c.in-Some.ensures.some.1
