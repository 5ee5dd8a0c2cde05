use Rattle.frames.proofs.Counted.{summed-insert}
use Rattle.frames.proofs.free_set.insert.Goals as goal

pub returns-clause-summed : goal.returns-clause-summed
returns-clause-summed c = summed-insert c.args.words.now c.insert.new.words c.args.summary.now c.insert-2.new.words c.args.k
    c.requires.summed c.insert.ensures.members c.insert.ensures.others c.insert-2.ensures.members
