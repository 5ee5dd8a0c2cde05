use Rattle.std.proofs.Common.{◌≡◌, ◌+◌, [], ◌∷◌, ◌++◌, length, slice_set, ap, ◌∙◌, subst, sym, arith}
use Rattle.std.proofs.lemmas.List.{length-append}
use Rattle.vm_base.specs.Cores.{members}
use Rattle.mmu.specs.declared.tlb.TlbEntry.{TlbEntry}
use Rattle.mmu.specs.Tlb.{are_distinct}
use Rattle.mmu.specs.Fills.{entries_of, count_below, NoneBefore, AreOrdered}
use Rattle.mmu.proofs.Distinct.{distinct_end}
use Rattle.mmu.proofs.Orders.{none_pushed}
use Rattle.mmu.proofs.Filings.{count_less, entries_pushed, room_free, ordered_pushed, sets_pushed}
use Rattle.mmu.proofs.tlb.Tlb.push.Goals as goal

pub first-place-requires : goal.first-place-requires
first-place-requires c =
    let t = c.args.self.now in
    room_free (length (entries_of t.places t.fills.items)) t.free t.counted c.requires.few

pub invariant_of-self : goal.invariant_of-self
invariant_of-self c =
    let t = c.args.self.now in
    let fs = t.fills.items in
    let es = entries_of t.places fs in
    let b = c.first-place.result in
    let e : TlbEntry = record { page = c.args.page; translation = c.args.translation } in
    let inside = c.first-place.ensures.inside in
    let member = c.first-place.ensures.member in
    let is : c.push.new.self.items ≡ fs ++ b ∷ [] = c.push.ensures.items in
    let more : entries_of (slice_set t.places b e) c.push.new.self.items ≡ es ++ e ∷ [] =
    ap (entries_of (slice_set t.places b e)) is ∙ entries_pushed t.places fs t.at t.free b e t.ordered t.filed.full inside member in
    let long : length (entries_of (slice_set t.places b e) c.push.new.self.items) ≡ length es + 1 = ap length more ∙ length-append es (e ∷ []) in
    let fewer : count_below (members c.without-self.result) 64 + 1 ≡ count_below (members t.free) 64 =
    ap (λ f. count_below f 64 + 1) c.without-self.ensures.members ∙ count_less (members t.free) b 64 inside member in
    record {
      few = omega (arith, long, c.requires.few);
      counted = omega (arith, long, fewer, t.counted);
      distinct = ap are_distinct more ∙ distinct_end es e t.distinct c.requires.absent;
      begun = omega (arith, c.push.ensures.len, t.begun);
      gone = subst (NoneBefore t.first) (sym is) (none_pushed fs t.first b t.begun t.gone);
      ordered = subst (λ xs. AreOrdered xs (slice_set t.at b c.len.result) c.without-self.result) (sym is)
          (subst (λ n. AreOrdered (fs ++ b ∷ []) (slice_set t.at b n) c.without-self.result) (sym c.len.ensures.value)
          (ordered_pushed fs t.at t.free c.without-self.result b t.ordered inside member c.without-self.ensures.members));
      filed = sets_pushed t.sets t.places t.free c.without-self.result b c.hash-set.result c.with.result e t.filed inside member c.hash-set.ensures.value
          c.hash-set.ensures.below c.with.ensures c.without-self.ensures.members;
    }

pub returns : goal.returns
returns c =
    let t = c.args.self.now in
    let e : TlbEntry = record { page = c.args.page; translation = c.args.translation } in
    ap (entries_of (slice_set t.places c.first-place.result e)) c.push.ensures.items
    ∙ entries_pushed t.places t.fills.items t.at t.free c.first-place.result e t.ordered t.filed.full c.first-place.ensures.inside c.first-place.ensures.member
