use Rattle.std.proofs.Common.{None}
use Rattle.slot_lock.specs.declared.plan.Goal.TheVariants as To
use Rattle.slot_lock.specs.Plan.{target_range}
use Rattle.vm_calls.proofs.Alike.{decision_alike}
use Rattle.live_tree.specs.Shown.{shown}
use Rattle.live_tree.proofs.Decided.{lent_alike}
use Rattle.live_space.proofs.in_call.InCall.decide_place.Goals as goal

pub returns-clause-decides : goal.returns-clause-decides
returns-clause-decides g c = decision_alike (λ n. None) _ (shown c.args.self.now.held.slots) (To.Place c.args.place c.args.target) _
    (lent_alike _ c.args.self.now.held _ (target_range c.args.place c.args.target) c.in_ok-lent.ensures c.requires.covers)
    c.decide_place_over-decision.ensures.decides
