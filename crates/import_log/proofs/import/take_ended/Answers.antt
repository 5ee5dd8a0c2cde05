use Rattle.import_steps.specs.Taking.{so_far}
use Rattle.import_log.proofs.EachLemmas.{taken_known}
use Rattle.import_log.proofs.import.take_ended.Goals as goal

pub ending_for-requires-clause-taken : goal.ending_for-requires-clause-taken
ending_for-requires-clause-taken g c =
    taken_known (so_far c.args.start.now) c.args.choice c.args.lines.now _ _ _ c.requires.made c.requires.process c.in_ok-imported.ensures.value

pub returns-in-Ok-clause-value : goal.returns-in-Ok-clause-value
returns-in-Ok-clause-value g c =
    taken_known (so_far c.args.start.now) c.args.choice c.args.lines.now _ _ _ c.requires.made c.requires.process c.in_ok-imported.ensures.value
