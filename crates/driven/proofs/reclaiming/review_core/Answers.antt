use Rattle.core_steps.specs.State.{world}
use Rattle.driven.proofs.Returned.{reviewed, some_join}
use Rattle.driven.proofs.reclaiming.review_core.Goals as goal

pub reviews-init : goal.reviews-init
reviews-init g c =
    reviewed (world g.M.SlotRead.slots c.args.machine.now.engine) (world g.M.SlotRead.slots c.review-outcome.new.machine.engine) c.args.core
    c.review-outcome.result c.review-outcome.ensures

pub reviews-preserved : goal.reviews-preserved
reviews-preserved g c =
    let m = world g.M.SlotRead.slots c.reviews.machine.engine in
    let v = world g.M.SlotRead.slots c.review-outcome-in-reviews.new.machine.engine in
    some_join (world g.M.SlotRead.slots c.args.machine.now.engine) m v c.reviews.invariant
    (reviewed m v c.args.core c.review-outcome-in-reviews.result c.review-outcome-in-reviews.ensures)
