use Rattle.std.proofs.Common.{◌≡◌, ℕ, ◌<◌, ◌≤◌, length, slice_index, ap, ◌∙◌, subst, sym, arith}
use Rattle.mmu.specs.Tlb.{are_distinct}
use Rattle.mmu.specs.Fills.{NoneBefore, IsMovedUp}
use Rattle.mmu.proofs.MovedUp.{moved_entries, moved_short, ordered_moved}
use Rattle.mmu.proofs.tlb.Tlb.move_up.Goals as goal

pub moved_up-self-requires-clause-begun : goal.moved_up-self-requires-clause-begun
moved_up-self-requires-clause-begun c = subst (λ xs. c.args.self.now.first ≤ length xs) (sym c.deref.ensures.0) c.args.self.now.begun

pub moved_up-self-requires-clause-even : goal.moved_up-self-requires-clause-even
moved_up-self-requires-clause-even c = c.args.self.now.ordered.even

pub moved_up-self-requires-clause-gone : goal.moved_up-self-requires-clause-gone
moved_up-self-requires-clause-gone c = subst (NoneBefore c.args.self.now.first) (sym c.deref.ensures.0) c.args.self.now.gone

pub moved_up-self-requires-clause-there : goal.moved_up-self-requires-clause-there
moved_up-self-requires-clause-there c =
    subst (λ xs. (i : ℕ) → i < length xs → slice_index xs i < 64 → slice_index c.args.self.now.at (slice_index xs i) ≡ i)
    (sym c.deref.ensures.0) (λ i l small. (c.args.self.now.ordered.there i l small).1)

pub invariant_of-self : goal.invariant_of-self
invariant_of-self c =
    let t = c.args.self.now in
    let fs = t.fills.items in
    let moved = c.moved_up-self.result.items in
    let new = c.moved_up-self.new.at in
    let w : IsMovedUp fs t.at (length fs) moved new = subst (λ xs. IsMovedUp xs t.at (length xs) moved new) c.deref.ensures.0 c.moved_up-self.ensures in
    let same = moved_entries fs t.at moved new t.places w in
    record {
      few = omega (arith, ap length same, t.few);
      counted = omega (arith, ap length same, t.counted);
      distinct = ap are_distinct same ∙ t.distinct;
      begun = omega arith;
      gone = λ i lt l. absurd (omega arith);
      ordered = ordered_moved fs t.at moved new t.free t.ordered w;
      filed = t.filed;
    }

pub returns-clause-entries : goal.returns-clause-entries
returns-clause-entries c =
    let t = c.args.self.now in
    let moved = c.moved_up-self.result.items in
    let new = c.moved_up-self.new.at in
    moved_entries t.fills.items t.at moved new t.places
    (subst (λ xs. IsMovedUp xs t.at (length xs) moved new) c.deref.ensures.0 c.moved_up-self.ensures)

pub returns-clause-short : goal.returns-clause-short
returns-clause-short c =
    let t = c.args.self.now in
    let moved = c.moved_up-self.result.items in
    let new = c.moved_up-self.new.at in
    moved_short t.fills.items t.at moved new t.places
    (subst (λ xs. IsMovedUp xs t.at (length xs) moved new) c.deref.ensures.0 c.moved_up-self.ensures)
