use Rattle.slot_lock.proofs.Words.{rules, List, Option, map, subst, sym, arith, All, MutexGuard}
use Rattle.live_levels.specs.Slots.{SlotView}
use Rattle.live_tree.specs.Guards.{slot_of}
use Rattle.live_tree.specs.Held.{CanTake}
use Rattle.live_tree.proofs.Cuts.{all_hold, each_holds, one_more_holds}
use Rattle.live_tree.proofs.held.page.all_can_take.Goals as goal

pub guards-preserved : goal.guards-preserved
guards-preserved g c =
    let takes : CanTake c.args.act.now (slot_of c.guard-item.result) = search rules in
    one_more_holds (CanTake c.args.act.now) c.as_slice-guard-items.result.now c.guards.guard-index c.guard-item.result (omega arith) c.guard-item.is
    c.guards.invariant takes

pub returns : goal.returns
returns g c = (
  λ t. subst (λ (l : List (Option (MutexGuard SlotView))). All (CanTake c.args.act.now) (map slot_of l)) c.as_slice-guard-items.ensures
      (all_hold (CanTake c.args.act.now) c.as_slice-guard-items.result.now c.guards.guard-index (omega arith) c.guards.invariant),
  λ all. search rules,
)

pub returns-then-not-guard_can_take : goal.returns-then-not-guard_can_take
returns-then-not-guard_can_take g c =
    let P : SlotView → Type 0 = CanTake c.args.act.now in
    let refused : ¬ P (slot_of c.guard-item.result) = search rules in (
      λ t. search rules,
      λ all. absurd (refused (each_holds P c.as_slice-guard-items.result.now c.guards.guard-index c.guard-item.result (omega arith) c.guard-item.is
          (subst (λ (l : List (Option (MutexGuard SlotView))). All P (map slot_of l)) (sym c.as_slice-guard-items.ensures) all))),
    )
