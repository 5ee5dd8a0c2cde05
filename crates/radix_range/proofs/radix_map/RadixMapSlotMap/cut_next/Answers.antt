use Rattle.std.proofs.Common.{◌≡◌, ◌-◌, ◌^◌, inl, inr, true, Some, sym, ap, ◌∙◌, arith, refl}
use Rattle.std.proofs.lemmas.Result.{IfOk-from_err}
use Rattle.slot_lock.proofs.Divisions.{cuts, at_first, at_end}
use Rattle.slot_lock.proofs.Steps.{slot_by_edge}
use Rattle.radix_range.specs.Tree.{tree_slots}
use Rattle.radix_range.specs.Found.{in_512}
use Rattle.radix_range.proofs.Known.{expanded}
use Rattle.radix_range.proofs.radix_map.RadixMapSlotMap.cut_next.Goals as goal

pub returns-then-slot_at-range-clause-step : goal.returns-then-slot_at-range-clause-step
returns-then-slot_at-range-clause-step g c =
    let found = c.slot_at.ensures in
    let crossed = found.slot.inside c.args.range.first c.if-slot_at-range.true found.high in
    let held : (tree_slots c.args.self.now.root).owner c.args.range.first ≡ Some c.args.core = c.requires.held.held c.args.range.first
    (omega arith) c.requires.range.some in
    let d = c.in_ok-expand.ensures.ok in
    cuts in_512 _ _ c.args.core c.args.range d.0 (inl crossed) d.1 (rw held at d.2) (at_first in_512 _ _ c.args.range crossed c.in_ok-expand.ensures.exact)

pub expand-requires-then-slot_at-range-2-clause-page : goal.expand-requires-then-slot_at-range-2-clause-page
expand-requires-then-slot_at-range-2-clause-page g c =
    let found = c.slot_at-2.ensures in
    let limit = slot_by_edge (tree_slots c.args.self.now.root) _ _ (2 ^ 35) found.slot
    (c.args.self.now.ok.laws _ refl).limit (omega (arith, c.if-slot_at-range-2.true, c.requires.range.high))
    in
    (omega (arith, c.requires.range.some), omega (arith, found.high))

pub returns-then-slot_at-range-2-clause-step : goal.returns-then-slot_at-range-2-clause-step
returns-then-slot_at-range-2-clause-step g c =
    let found = c.slot_at-2.ensures in
    let first : c.slot_at.result.first ≡ c.args.range.first = omega (arith, c.slot_at.ensures.low, c.if-slot_at-range.false) in
    let begins : (tree_slots c.args.self.now.root).edge c.args.range.first ≡ true = ap (tree_slots c.args.self.now.root).edge (sym first)
    ∙ c.slot_at.ensures.slot.begins in
    let some = c.requires.range.some in
    let before = c.if-slot_at-range-2.true in
    let crossed = found.slot.inside c.args.range.end before found.high in
    let last = c.requires.held.held (c.args.range.end - 1) (omega arith) (omega arith) in
    let held : (tree_slots c.args.self.now.root).owner c.args.range.end ≡ Some c.args.core = found.owner c.args.range.end found.low
    found.high ∙ (sym (found.owner (c.args.range.end - 1) (omega arith) (omega (arith, found.high))) ∙ last) in
    let d = c.in_ok-expand-2.ensures.ok in
    cuts in_512 _ _ c.args.core c.args.range d.0 (inr crossed) d.1 (rw held at d.2) (at_end in_512 _ _ c.args.range begins c.in_ok-expand-2.ensures.exact)

pub returns-then-slot_at-range-2-clause-exact : goal.returns-then-slot_at-range-2-clause-exact
returns-then-slot_at-range-2-clause-exact g c =
    let first : c.slot_at.result.first ≡ c.args.range.first = omega (arith, c.slot_at.ensures.low, c.if-slot_at-range.false) in
    at_end in_512 _ _ c.args.range (ap (tree_slots c.args.self.now.root).edge (sym first) ∙ c.slot_at.ensures.slot.begins) c.in_ok-expand-2.ensures.exact

pub invariant_of-self-clause-known : goal.invariant_of-self-clause-known
invariant_of-self-clause-known g c =
    expanded c.expand.result c.args.self.now.root c.expand.new.root _ c.args.self.now.full c.args.self.now.tights.items c.expand.ensures.ok
    c.expand.ensures.err c.args.self.now.known

pub invariant_of-self-then-slot_at-range-2-clause-known : goal.invariant_of-self-then-slot_at-range-2-clause-known
invariant_of-self-then-slot_at-range-2-clause-known g c =
    expanded c.expand-then-slot_at-range-2.result c.args.self.now.root c.expand-then-slot_at-range-2.new.root _
    c.args.self.now.full c.args.self.now.tights.items c.expand-then-slot_at-range-2.ensures.ok c.expand-then-slot_at-range-2.ensures.err
    c.args.self.now.known

pub returns-in_err-expand-clause-step : goal.returns-in_err-expand-clause-step
returns-in_err-expand-clause-step g c = IfOk-from_err _ _ c.from_residual.ensures.0

pub returns-in_err-expand-clause-exact : goal.returns-in_err-expand-clause-exact
returns-in_err-expand-clause-exact g c = IfOk-from_err _ _ c.from_residual.ensures.0

pub returns-in_err-expand-2-clause-step : goal.returns-in_err-expand-2-clause-step
returns-in_err-expand-2-clause-step g c = IfOk-from_err _ _ c.from_residual-in_err-expand-2.ensures.0

pub returns-in_err-expand-2-clause-exact : goal.returns-in_err-expand-2-clause-exact
returns-in_err-expand-2-clause-exact g c = IfOk-from_err _ _ c.from_residual-in_err-expand-2.ensures.0
