use Rattle.slot_lock.proofs.Words.{arith}
use Rattle.radix_range.proofs.Walks.{of_root}
use Rattle.radix_range.proofs.walk.survey.Goals as goal

pub survey-requires-clause-within : goal.survey-requires-clause-within
survey-requires-clause-within g c = of_root c.args.root.now c.requires.tree c.args.range.end (omega (arith, c.requires.range.high))
