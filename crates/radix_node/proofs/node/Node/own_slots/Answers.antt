use Rattle.std.proofs.Common.{◌≡◌, ℕ, ◌-◌, ◌*◌, ◌<◌, ◌∙◌, List, refl, sym, ap, subst, arith}
use Rattle.radix_node.specs.Run.{Run, width_of}
use Rattle.radix_node.specs.Node.{Parts, flatten, runs}
use Rattle.radix_node.specs.OwnedRuns.{GetOwner}
use Rattle.radix_node.specs.Slots.{parts_of, IsNode}
use Rattle.radix_node.proofs.Flat.{same_slots}
use Rattle.radix_node.proofs.OwnedRuns.{one_more}
use Rattle.radix_node.proofs.Written.{node_written, runs_written, whole_written}
use Rattle.slot_lock.proofs.Facts.{two}
use Rattle.radix_node.proofs.node.Node.own_slots.Goals as goal

pub bounds-slots-k : goal.bounds-slots-k
bounds-slots-k g c = let full = c.slots.invariant.2.full in omega (arith, full, c.requires.within, c.slots-test.true)

pub invariant_of-self : goal.invariant_of-self
invariant_of-self g c = node_written c.self.inside.slots c.slots.slots (ap (λ (v : Parts). v.level) c.self.view_is) c.self.invariant c.slots.invariant.2

pub invariant_of-self-then-not-hand_over : goal.invariant_of-self-then-not-hand_over
invariant_of-self-then-not-hand_over g c =
    let same = c.if-not-hand_over.ensures.same (two _ refl) in
    node_written c.self.inside.slots _ (ap (λ (v : Parts). v.level) c.self.view_is) c.self.invariant
    (subst (IsNode c.args.self.now.level) (sym (same_slots c.slots.k c.slots.slots _ c.hand_over.new.self same)) c.slots.invariant.2)

pub returns-then-not-hand_over-clause-level : goal.returns-then-not-hand_over-clause-level
returns-then-not-hand_over-clause-level g c = ap (λ (v : Parts). v.level) c.self.view_is

pub returns-then-not-hand_over-clause-few : goal.returns-then-not-hand_over-clause-few
returns-then-not-hand_over-clause-few g c = let i = c.slots.invariant in omega (arith, i.0, i.1)

pub returns-then-not-hand_over-clause-owners : goal.returns-then-not-hand_over-clause-owners
returns-then-not-hand_over-clause-owners g c =
    let level = c.args.self.now.level in
    let there = same_slots c.slots.k c.slots.slots _ c.hand_over.new.self (c.if-not-hand_over.ensures.same (two _ refl)) in
    let node = subst (IsNode level) (sym there) c.slots.invariant.2 in
    subst (λ rs. GetOwner (runs c.args.self.now) rs (c.args.first * width_of level) (width_of level) c.args.owners.now (c.slots.k - c.args.first))
    (sym (runs_written c.self.inside.slots _ (ap (λ (v : Parts). v.level) c.self.view_is) c.self.invariant node
    ∙ ap (λ xs. flatten (width_of level) (parts_of xs)) there)) c.slots.invariant.3

pub returns-clause-level : goal.returns-clause-level
returns-clause-level g c = ap (λ (v : Parts). v.level) c.self.view_is

pub returns-clause-few : goal.returns-clause-few
returns-clause-few g c = omega (arith, c.requires.order)

pub returns-clause-owners : goal.returns-clause-owners
returns-clause-owners g c =
    let level = c.args.self.now.level in
    let i = c.slots.invariant in
    let all : c.slots.k ≡ c.args.end = omega (arith, i.1, c.slots-test.false) in
    let own : List Run → ℕ → Type 0 = λ rs n. GetOwner (runs c.args.self.now) rs (c.args.first * width_of level) (width_of level) c.args.owners.now (n - c.args.first) in
    subst (λ rs. own rs c.args.end)
    (sym (runs_written c.self.inside.slots c.slots.slots (ap (λ (v : Parts). v.level) c.self.view_is) c.self.invariant i.2))
    (subst (own _) all i.3)

pub returns-then-not-hand_over-clause-whole : goal.returns-then-not-hand_over-clause-whole
returns-then-not-hand_over-clause-whole g c =
    let same = c.if-not-hand_over.ensures.same (two _ refl) in
    whole_written c.self.inside.slots _ (ap (λ (v : Parts). v.level) c.self.view_is) c.self.invariant
    (subst (IsNode c.args.self.now.level) (sym (same_slots c.slots.k c.slots.slots _ c.hand_over.new.self same)) c.slots.invariant.2)

pub slots-preserved : goal.slots-preserved
slots-preserved g c =
    let i = c.slots.invariant in
    let high : c.slots.k < 512 = omega (arith, c.requires.within, c.slots-test.true) in
    let more = one_more c.index-slots-k.result _ _ (runs c.args.self.now) c.args.owners.now i.2 i.0 high refl
    (c.if-not-hand_over.ensures.changes refl) i.3 in
    (omega (arith, i.0), omega (arith, c.slots-test.true), more.0, more.1)

pub returns-clause-whole : goal.returns-clause-whole
returns-clause-whole g c =
    whole_written c.self.inside.slots c.slots.slots (ap (λ (v : Parts). v.level) c.self.view_is) c.self.invariant
    c.slots.invariant.2
