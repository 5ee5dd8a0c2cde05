use Rattle.std.proofs.Common.{◌≡◌}
use Rattle.std.specs.Prelude.{◌≢◌, pos}
use Rattle.machine_model.proofs.Words.{refl, ◌∙◌, true_count}
use Rattle.core_steps.specs.State.{world}
use Rattle.driven.proofs.Returned.{counted_back}
use Rattle.driven.proofs.reclaiming.is_back.Goals as goal

pub returns-then-true_count-ne0 : goal.returns-then-true_count-ne0
returns-then-true_count-ne0 g c =
    let w = world g.M.SlotRead.slots c.args.machine.now.engine in
    let is = c.true_count.ensures in
    let other = c.if-true_count-ne0.true in
    let used : true_count w.memory.counts c.args.frame ≢ pos 0 = λ h. let e : c.true_count.result ≡ pos 0 = is ∙ h in other (rw e refl) in
    λ same. counted_back w c.args.frame c.args.machine.now.reached used
