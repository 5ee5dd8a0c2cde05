use Rattle.std.proofs.Common.{rules}
use Rattle.frames.proofs.BitSets.{bit_in-remove}
use Rattle.live_pages.proofs.free_frames.remove.Goals as goal

pub returns : goal.returns
returns c = bit_in-remove c.args.words.now c.args.k c.requires (search rules)
