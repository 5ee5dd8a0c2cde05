use Rattle.std.proofs.Common.{refl}
use Rattle.litmus_outcomes.proofs.Steps.{goes_more, goes_none}
use Rattle.litmus_outcomes.proofs.driving.go_on.Goals as goal

pub steps-init : goal.steps-init
steps-init g c = goes_none _ _ _ refl

pub steps-preserved : goal.steps-preserved
steps-preserved g c = goes_more _ _ _ _ c.steps.invariant c.in_ok-outcome.ensures.kept

pub returns : goal.returns
returns g c = c.steps.invariant

pub returns-then-ne : goal.returns-then-ne
returns-then-ne g c = goes_more _ _ _ _ c.steps.invariant c.in_ok-outcome.ensures.kept
