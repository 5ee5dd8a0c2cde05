use Rattle.std.proofs.Common.{◌≤◌, length}
use Rattle.live_pages.proofs.FreeFrames.{none_behind}
use Rattle.live_pages.proofs.free_frames.first_from.Goals as goal

pub returns-clause-none : goal.returns-clause-none
returns-clause-none c =
    let past : length c.args.words.now ≤ c.words.at = c.words-test.false in
    none_behind c.args.words.now c.args.from c.words.at past c.words.invariant.1
