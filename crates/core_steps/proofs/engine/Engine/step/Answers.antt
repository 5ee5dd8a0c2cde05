use Rattle.machine_model.proofs.Words.{◌≡◌, ◌+◌, ◌<◌, ◌^◌, true, arith, rules, core_of, event_limit, is_here}
use Rattle.std.proofs.Common.{nat_lt}
use Rattle.core_steps.specs.State.{world}
use Rattle.core_steps.proofs.at_once.AtOnce.{less}
use Rattle.core_steps.proofs.rows.Rows.{counted, if_true}
use Rattle.core_steps.proofs.engine.Engine.step.Goals as goal

pub returns-in-Ok-clause-step : goal.returns-in-Ok-clause-step
returns-in-Ok-clause-step g c =
    let w = world g.M.SlotRead.slots c.args.self.now in
    let below : w.calls.events + 1 < 2 ^ 64 = search rules in
    let here : is_here w.made (core_of c.args.event) ≡ true = search rules in
    if_true (nat_lt w.calls.events event_limit) _ _ (less w.calls.events event_limit (omega (arith, below)))
    (if_true (is_here w.made (core_of c.args.event)) _ _ here (counted w _ c.args.event c.in-Ok.outcome c.in-Ok.ensures.row))
