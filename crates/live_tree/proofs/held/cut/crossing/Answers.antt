use Rattle.slot_lock.proofs.Words.{rules, List, Option, map, subst, arith, All, MutexGuard}
use Rattle.live_levels.specs.Slots.{SlotView}
use Rattle.live_tree.specs.Guards.{slot_of}
use Rattle.live_tree.specs.Held.{CrossesNoEdge}
use Rattle.live_tree.proofs.Cuts.{all_hold, one_more_holds}
use Rattle.live_tree.proofs.held.cut.crossing.Goals as goal

pub guards-preserved : goal.guards-preserved
guards-preserved g c =
    let fits : CrossesNoEdge c.args.range (slot_of c.guard-item.result) = search rules in
    one_more_holds (CrossesNoEdge c.args.range) c.as_slice-guard-items.result.now c.guards.at c.guard-item.result
    (omega arith) c.guard-item.is c.guards.invariant fits

pub returns-clause-none : goal.returns-clause-none
returns-clause-none g c =
    subst (λ (l : List (Option (MutexGuard SlotView))). All (CrossesNoEdge c.args.range) (map slot_of l)) c.as_slice-guard-items.ensures
    (all_hold (CrossesNoEdge c.args.range) c.as_slice-guard-items.result.now c.guards.at (omega arith) c.guards.invariant)
