use Rattle.std.proofs.Common.{◌≡◌, ◌+◌, ◌≤◌, ◌<◌, [], ◌∷◌, ◌++◌, length, slice_index, slice_set, sym, ap, ◌∙◌, subst, refl}
use Rattle.mmu.specs.Fills.{IsMovedUp}
use Rattle.mmu.proofs.MovedUp.{moved_none, moved_past, moved_more}
use Rattle.mmu.proofs.tlb.moved_up.Goals as goal
use Rattle.mmu.proofs.tlb.moved_up.Goals.{then-from-lt-PLACES, else-from-lt-PLACES}

pub order-init : goal.order-init
order-init c =
    subst (λ xs. IsMovedUp c.args.fills.now c.args.at.now c.args.first xs c.args.at.now) (sym c.new-moved.ensures)
    (moved_none c.args.fills.now c.args.at.now c.args.first c.requires.even c.requires.begun c.requires.gone)

pub order-preserved : goal.order-preserved
order-preserved c =
    let fs = c.args.fills.now in
    let at = c.args.at.now in
    let i = c.order.i in
    let b = slice_index fs i in
    let moved = c.order.moved.items in
    let new = c.order.at in
    elim c.if-from-lt-PLACES.branch [
      | then-from-lt-PLACES w ↦
          let small : b < 64 = subst (λ n. n < 64) c.from.ensures w.if-from-lt-PLACES.true in
          let m : c.if-from-lt-PLACES.moved.items ≡ moved ++ b ∷ [] = ap (λ v. v.items) w.moved-is ∙ w.push.ensures.items in
          let a : c.if-from-lt-PLACES.at ≡ slice_set new b (length moved) =
          w.at-is ∙ ap (λ k. slice_set new k w.len.result) w.from-then-from-lt-PLACES.ensures ∙ ap (slice_set new b) w.len.ensures.value in
          subst (λ xs. IsMovedUp fs at (i + 1) xs c.if-from-lt-PLACES.at) (sym m)
          (subst (IsMovedUp fs at (i + 1) (moved ++ b ∷ [])) (sym a)
          (moved_more fs at i b moved new c.order.invariant c.order-test.true refl small (c.requires.there i c.order-test.true small)))
      | else-from-lt-PLACES w ↦
          let past : 64 ≤ b = subst (λ n. 64 ≤ n) c.from.ensures w.if-from-lt-PLACES.false in
          subst (λ xs. IsMovedUp fs at (i + 1) xs c.if-from-lt-PLACES.at) (sym (ap (λ v. v.items) w.moved-is))
          (subst (IsMovedUp fs at (i + 1) moved) (sym w.at-is) (moved_past fs at i moved new c.order.invariant c.order-test.true past))
    ]
