use Rattle.std.proofs.Common.{◌≡◌, ◌+◌, ◌<◌, length, slice_index, slice_set, ap, ◌∙◌, subst, sym, arith}
use Rattle.std.proofs.Math.ListN.{length-set}
use Rattle.mmu.specs.Fills.{entries_of, entry_at, filled_at, IsHeld, NoneBefore}
use Rattle.mmu.proofs.Orders.{oldest_left, none_dropped_at}
use Rattle.mmu.proofs.Filings.{filled_here, filled_none, oldest_held}
use Rattle.mmu.proofs.tlb.Tlb.drop_oldest.Goals as goal
use Rattle.mmu.proofs.tlb.Tlb.drop_oldest.Goals.{After-let_go}

pub bounds-deref-first : goal.bounds-deref-first
bounds-deref-first c =
    let t = c.args.self.now in
    let i = c.oldest-first.result in
    let o = oldest_held t.places t.fills.items t.at t.free i t.ordered c.oldest-first.ensures.gone c.requires c.oldest-first.ensures.place in
    subst (λ xs. i < length xs) (sym c.deref.ensures.0) o.0

pub let_go-requires : goal.let_go-requires
let_go-requires c =
    let t = c.args.self.now in
    let i = c.oldest-first.result in
    let o = oldest_held t.places t.fills.items t.at t.free i t.ordered c.oldest-first.ensures.gone c.requires c.oldest-first.ensures.place in
    subst (IsHeld t.free) (sym (c.from-oldest.ensures ∙ ap (λ xs. slice_index xs i) c.deref.ensures.0)) o.1

left : (c : After-let_go) → c.let_go.new.self.fills.items ≡ slice_set c.args.self.now.fills.items c.oldest-first.result 64
left c =
    let t = c.args.self.now in
    let i = c.oldest-first.result in
    let o = oldest_held t.places t.fills.items t.at t.free i t.ordered c.oldest-first.ensures.gone c.requires c.oldest-first.ensures.place in
    c.let_go.ensures.fills
    ∙ ap (λ k. slice_set t.fills.items k 64) (ap (slice_index t.at) (c.from-oldest.ensures ∙ ap (λ xs. slice_index xs i) c.deref.ensures.0) ∙ o.2)

pub invariant_of-self : goal.invariant_of-self
invariant_of-self c =
    let t = c.args.self.now in
    let fs = t.fills.items in
    let i = c.oldest-first.result in
    let n = c.let_go.new.self in
    let o = oldest_held t.places fs t.at t.free i t.ordered c.oldest-first.ensures.gone c.requires c.oldest-first.ensures.place in
    record {
      few = n.few;
      counted = n.counted;
      distinct = n.distinct;
      begun = omega (arith, o.0, ap length (left c), length-set fs i 64);
      gone = subst (NoneBefore (i + 1)) (sym (left c)) (none_dropped_at fs i o.0 c.oldest-first.ensures.gone);
      ordered = n.ordered;
      filed = n.filed;
    }

pub returns-clause-entries : goal.returns-clause-entries
returns-clause-entries c =
    let t = c.args.self.now in
    let fs = t.fills.items in
    let i = c.oldest-first.result in
    let b = slice_index fs i in
    let gone = c.oldest-first.ensures.gone in
    let o = oldest_held t.places fs t.at t.free i t.ordered gone c.requires c.oldest-first.ensures.place in
    ap (λ xs. entries_of xs c.let_go.new.self.fills.items) c.let_go.ensures.places ∙ ap (entries_of t.places) (left c.before)
    ∙ oldest_left (filled_at t.places) fs i (entry_at t.places b) (filled_none t.places) gone o.0 (filled_here t.places b o.1.0)

pub returns-clause-len : goal.returns-clause-len
returns-clause-len c = ap length (left c.before) ∙ length-set c.args.self.now.fills.items c.oldest-first.result 64
