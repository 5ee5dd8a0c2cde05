use Rattle.std.proofs.Common.{◌∙◌}
use Rattle.machine_model.specs.declared.setup.CallLimit.TheVariants.{Usual}
use Rattle.trace_words.proofs.declaration.Declaration.setup.Goals as goal

pub returns-clause-sound : goal.returns-clause-sound
returns-clause-sound g c = c.in_ok-setup.ensures.faults Usual ∙ c.requires
