use Rattle.frames.proofs.BitSets.{bit_in-insert}
use Rattle.live_pages.proofs.free_frames.insert.Goals as goal

pub returns : goal.returns
returns c = bit_in-insert c.args.words.now c.args.k c.requires
