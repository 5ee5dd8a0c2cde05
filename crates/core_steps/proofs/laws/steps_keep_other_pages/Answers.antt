use Rattle.core_steps.proofs.Keeping.{keeps}
use Rattle.core_steps.proofs.laws.steps_keep_other_pages.Goals as goal

pub returns : goal.returns
returns c = keeps
