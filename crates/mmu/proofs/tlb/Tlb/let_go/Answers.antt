use Rattle.std.proofs.Common.{◌≡◌, ◌+◌, slice_index, ap, ◌∙◌, arith}
use Rattle.std.proofs.Math.ListN.{length-set}
use Rattle.vm_base.specs.Cores.{members}
use Rattle.mmu.specs.Tlb.{are_distinct, is_at}
use Rattle.mmu.specs.Fills.{entries_of, page_at, count_below}
use Rattle.mmu.proofs.Distinct.{distinct_without}
use Rattle.mmu.proofs.Orders.{none_set, written}
use Rattle.mmu.proofs.Filings.{count_more, place_left, place_less, ordered_dropped, sets_dropped}
use Rattle.mmu.proofs.tlb.Tlb.let_go.Goals as goal

pub invariant_of-self : goal.invariant_of-self
invariant_of-self c =
    let t = c.args.self.now in
    let fs = t.fills.items in
    let b = c.args.place in
    let h = c.requires in
    let i = slice_index t.at b in
    let is = written fs c.deref_mut.result.now c.from-at.result i 64 c.deref_mut.ensures.value c.from-at.ensures in
    let less = place_less t.places fs t.at t.free b t.ordered h in
    let more : count_below (members c.with-self.result) 64 ≡ count_below (members t.free) 64 + 1 =
    ap (λ f. count_below f 64) c.with-self.ensures ∙ count_more (members t.free) b 64 h.0 h.1 in
    record {
      few = rw is (omega (arith, less, t.few));
      counted = rw is (omega (arith, less, more, t.counted));
      distinct = rw is (ap are_distinct (place_left t.places fs t.at t.free b t.ordered t.distinct h)
          ∙ distinct_without (is_at (page_at t.places b)) (entries_of t.places fs) t.distinct);
      begun = rw is (omega (arith, length-set fs i 64, t.begun));
      gone = rw is (none_set fs t.first i t.gone);
      ordered = rw is (ordered_dropped fs t.at t.free c.with-self.result b t.ordered h c.with-self.ensures);
      filed = sets_dropped t.sets t.places t.free c.with-self.result b c.hash-set.result c.without.result t.filed h c.hash-set.ensures.value
          c.hash-set.ensures.below c.without.ensures.members c.with-self.ensures;
    }

pub returns-clause-fills : goal.returns-clause-fills
returns-clause-fills c =
    let t = c.args.self.now in
    written t.fills.items c.deref_mut.result.now c.from-at.result (slice_index t.at c.args.place) 64 c.deref_mut.ensures.value c.from-at.ensures
