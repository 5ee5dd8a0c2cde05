use Rattle.slot_lock.proofs.Words.{ℕ, ◌^◌, inl, inr, ap, ◌∙◌, subst, arith, refl, IsPage}
use Rattle.std.proofs.lemmas.Result.{IfOk-from_err}
use Rattle.slot_lock.specs.Slots.{Slots, Divides, DividesAs, between}
use Rattle.slot_lock.proofs.Divisions.{splits, at_first, at_end}
use Rattle.slot_lock.proofs.Steps.{slot_by_edge}
use Rattle.radix_range.specs.Tree.{tree_slots}
use Rattle.radix_range.specs.Found.{in_512}
use Rattle.radix_range.proofs.Known.{expanded, same_slots, same_info}
use Rattle.radix_range.proofs.radix_map.RadixMapSlotMap.lock_next.Goals as goal

pub expand-requires-clause-crossed : goal.expand-requires-clause-crossed
expand-requires-clause-crossed g c =
    let e = c.in-Before.ensures.tries in
    ap (λ (s : Slots). s.edge c.args.cursor) e.2 ∙ e.1

pub returns-in_ok-expand-in-Before-clause-step : goal.returns-in_ok-expand-in-Before-clause-step
returns-in_ok-expand-in-Before-clause-step g c =
    let e = c.in-Before.ensures.tries in
    let now = tree_slots c.expand.new.root in
    let d = subst (λ (s : Slots). (at : ℕ) × IsPage at × Divides s now (s.owner c.args.cursor) at) e.2 c.in_ok-expand-in-Before.ensures.ok in
    let exact = subst (λ (s : Slots). DividesAs in_512 s now c.args.cursor) e.2 c.in_ok-expand-in-Before.ensures.exact in
    splits in_512 _ _ c.args.cursor c.args.end d.0 c.requires.ordered e.0 (inl e.1) d.1 (rw e.0 at d.2)
    (at_first in_512 _ _ (between c.args.cursor c.args.end) e.1 exact)

pub expand-requires-in-Beyond-clause-page : goal.expand-requires-in-Beyond-clause-page
expand-requires-in-Beyond-clause-page g c =
    let past = c.in-Beyond.ensures.tries.0 in
    let limit = slot_by_edge (tree_slots c.args.self.now.root) _ _ (2 ^ 35) past.slot
    (c.args.self.now.ok.laws _ refl).limit (omega (arith, c.requires.ordered, c.requires.valid.1)) in
    (omega (arith, c.requires.ordered), omega (arith, past.past, limit))

pub expand-requires-in-Beyond-clause-crossed : goal.expand-requires-in-Beyond-clause-crossed
expand-requires-in-Beyond-clause-crossed g c =
    let e = c.in-Beyond.ensures.tries in
    ap (λ (s : Slots). s.edge c.args.end) e.1 ∙ e.0.slot.inside c.args.end c.requires.ordered e.0.past

pub returns-in_ok-expand-in-Beyond-clause-step : goal.returns-in_ok-expand-in-Beyond-clause-step
returns-in_ok-expand-in-Beyond-clause-step g c =
    let e = c.in-Beyond.ensures.tries in
    let now = tree_slots c.expand-in-Beyond.new.root in
    let free = e.0.free c.args.cursor (omega arith) e.0.slot.ordered in
    let free_end = e.0.free c.args.end (omega (arith, c.requires.ordered)) e.0.past in
    let d = subst (λ (s : Slots). (at : ℕ) × IsPage at × Divides s now (s.owner c.args.end) at) e.1 c.in_ok-expand-in-Beyond.ensures.ok in
    let exact = subst (λ (s : Slots). DividesAs in_512 s now c.args.end) e.1 c.in_ok-expand-in-Beyond.ensures.exact in
    splits in_512 _ _ c.args.cursor c.args.end d.0 c.requires.ordered free
    (inr (λ p a b. e.0.slot.inside p a (omega (arith, b, e.0.past)))) d.1 (rw free_end at d.2)
    (at_end in_512 _ _ (between c.args.cursor c.args.end) e.0.slot.begins exact)

pub invariant_of-self : goal.invariant_of-self
invariant_of-self g c = record {
  ok = c.lock.ensures.tree;
  known = same_slots (tree_slots c.args.self.now.root) (tree_slots c.lock.new.root) c.args.self.now.full c.args.self.now.tights.items
      c.args.self.now.known c.in-Held.ensures.tries.1;
}

pub invariant_of-self-in-Before-clause-known : goal.invariant_of-self-in-Before-clause-known
invariant_of-self-in-Before-clause-known g c =
    expanded c.expand.result c.lock.new.root c.expand.new.root _ c.args.self.now.full c.args.self.now.tights.items c.expand.ensures.ok
    c.expand.ensures.err
    (same_slots (tree_slots c.args.self.now.root) (tree_slots c.lock.new.root) c.args.self.now.full c.args.self.now.tights.items
    c.args.self.now.known c.in-Before.ensures.tries.2)

pub invariant_of-self-in-Beyond-clause-known : goal.invariant_of-self-in-Beyond-clause-known
invariant_of-self-in-Beyond-clause-known g c =
    expanded c.expand-in-Beyond.result c.lock.new.root c.expand-in-Beyond.new.root _ c.args.self.now.full c.args.self.now.tights.items
    c.expand-in-Beyond.ensures.ok c.expand-in-Beyond.ensures.err
    (same_slots (tree_slots c.args.self.now.root) (tree_slots c.lock.new.root) c.args.self.now.full c.args.self.now.tights.items
    c.args.self.now.known c.in-Beyond.ensures.tries.1)

pub invariant_of-self-in-Locked-1 : goal.invariant_of-self-in-Locked-1
invariant_of-self-in-Locked-1 g c = record {
  ok = c.lock.ensures.tree;
  known = same_info (tree_slots c.args.self.now.root) (tree_slots c.lock.new.root) c.args.self.now.full c.args.self.now.tights.items
      c.args.self.now.known (ap (λ (s : Slots). s.info) c.in-Locked.ensures.tries.now);
}

pub returns-in_err-expand-in-Before-clause-step : goal.returns-in_err-expand-in-Before-clause-step
returns-in_err-expand-in-Before-clause-step g c = IfOk-from_err _ _ c.from_residual.ensures.0

pub returns-in_err-expand-in-Before-clause-exact : goal.returns-in_err-expand-in-Before-clause-exact
returns-in_err-expand-in-Before-clause-exact g c = IfOk-from_err _ _ c.from_residual.ensures.0

pub returns-in_err-expand-in-Beyond-clause-step : goal.returns-in_err-expand-in-Beyond-clause-step
returns-in_err-expand-in-Beyond-clause-step g c = IfOk-from_err _ _ c.from_residual-in_err-expand-in-Beyond.ensures.0

pub returns-in_err-expand-in-Beyond-clause-exact : goal.returns-in_err-expand-in-Beyond-clause-exact
returns-in_err-expand-in-Beyond-clause-exact g c = IfOk-from_err _ _ c.from_residual-in_err-expand-in-Beyond.ensures.0
