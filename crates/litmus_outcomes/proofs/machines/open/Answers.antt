use Rattle.std.proofs.Common.{subst}
use Rattle.core_steps.specs.Machine.{state}
use Rattle.litmus_outcomes.specs.Opening.{IsCalm}
use Rattle.litmus_outcomes.proofs.Assembled.{is_calm}
use Rattle.litmus_outcomes.proofs.machines.open.Goals as goal

pub returns : goal.returns
returns g c = subst (λ m. IsCalm m c.args.events.now (state c.in-Ok-run_all.done.machine)) c.in-Ok.ensures.made
    (is_calm _ c.args.events.now _ c.in-Ok-run_all.ensures c.in_default.ensures)
