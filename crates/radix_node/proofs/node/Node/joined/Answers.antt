use Rattle.std.proofs.Common.{◌*◌, sym, ap, ◌∙◌, subst, arith, rules}
use Rattle.radix_node.specs.State.{state_of, state_from, IsPlain}
use Rattle.radix_node.specs.Run.{width_of, IsCarried}
use Rattle.radix_node.specs.Node.{Parts, Own, runs}
use Rattle.radix_node.proofs.Joined.{no_child, not_plain, first_fits, goes_on_all, joins-all, joined_sound}
use Rattle.radix_node.proofs.node.Node.joined.Goals as goal

pub returns-in-Child-clause-none : goal.returns-in-Child-clause-none
returns-in-Child-clause-none g c = λ s plain e.
    no_child c.self.inside.level c.self.inside.slots.items s _ c.index.result.now c.in-Child.field-0 c.self.invariant
    (subst (λ (v : Parts). IsCarried (width_of v.level) s (runs v)) (sym c.self.view_is) e) c.index.ensures c.in-Child.is

pub returns-then-not-is_plain-clause-none : goal.returns-then-not-is_plain-clause-none
returns-then-not-is_plain-clause-none g c = λ s plain e.
    let first = not_plain c.self.inside.level c.self.inside.slots.items s _ c.in-Own.state c.self.invariant
    (subst (λ (v : Parts). IsCarried (width_of v.level) s (runs v)) (sym c.self.view_is) e) (sym c.in-Own.is ∙ c.index.ensures) plain in
    search rules

pub goes_on-requires-clause-fits : goal.goes_on-requires-clause-fits
goes_on-requires-clause-fits g c =
    rw (c.slots.invariant.1) (first_fits c.self.inside.level c.self.inside.slots.items c.slots.k _ c.in-Own.state c.self.invariant
    (sym c.in-Own.is ∙ c.index.ensures) c.slots-test.true)

pub returns-then-not-goes_on-clause-none : goal.returns-then-not-goes_on-clause-none
returns-then-not-goes_on-clause-none g c = λ s plain e.
    let on = goes_on_all c.self.inside.level c.self.inside.slots.items s _ _ c.in-Own.state c.slots.k c.index-in-slots.result.now
    c.self.invariant (subst (λ (v : Parts). IsCarried (width_of v.level) s (runs v)) (sym c.self.view_is) e) (sym c.in-Own.is
    ∙ c.index.ensures) c.slots-test.true c.index-in-slots.ensures in
    let here = on ∙ ap (λ w. Own (state_from (state_of c.in-Own.state) (c.slots.k * w))) (sym c.slots.invariant.1) in
    search rules

pub returns-clause-some : goal.returns-clause-some
returns-clause-some g c =
    let plain : IsPlain (state_of c.in-Own.state) = search rules in (
      plain,
      rw (← c.self.view_is) (joins-all c.self.inside.level c.slots.k (state_of c.in-Own.state) c.self.inside.slots.items
          c.index.result.now c.self.invariant (omega arith) c.slots.invariant.0),
    )

pub returns-clause-sound : goal.returns-clause-sound
returns-clause-sound g c =
    let plain : IsPlain (state_of c.in-Own.state) = search rules in
    rw (← c.self.view_is) (joined_sound c.self.inside.level c.slots.k (state_of c.in-Own.state) c.self.inside.slots.items
    c.index.result.now c.self.invariant (omega arith) plain c.slots.invariant.0)
