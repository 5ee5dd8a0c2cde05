use Rattle.frames.proofs.BitSets.{bit_in-insert}
use Rattle.frames.proofs.bits.insert.Goals as goal

pub returns-clause-members : goal.returns-clause-members
returns-clause-members c = bit_in-insert c.args.words.now c.args.k c.requires
