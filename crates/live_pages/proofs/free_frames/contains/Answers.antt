use Rattle.frames.proofs.BitSets.{bit_in-read}
use Rattle.live_pages.proofs.free_frames.contains.Goals as goal

pub returns : goal.returns
returns c = bit_in-read c.args.words.now c.args.k
