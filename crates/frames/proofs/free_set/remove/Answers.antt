use Rattle.std.proofs.Common.{◌≢◌, ◌/◌, get_or, arith}
use Rattle.frames.proofs.Counted.{summed-some}
use Rattle.frames.proofs.free_set.remove.Goals as goal

pub returns-else-words-k-eq0-clause-summed : goal.returns-else-words-k-eq0-clause-summed
returns-else-words-k-eq0-clause-summed c =
    let some : get_or c.remove.new.words (c.args.k / 64) 0 ≢ 0 = c.if-words-k-eq0.false in
    summed-some c.args.words.now c.remove.new.words c.args.summary.now c.args.k c.requires.summed c.requires.member c.remove.ensures.others
    (omega (arith, some))
