use Rattle.std.proofs.Common.{rules}
use Rattle.frames.proofs.BitSets.{bit_in-remove}
use Rattle.frames.proofs.bits.remove.Goals as goal

pub returns-clause-members : goal.returns-clause-members
returns-clause-members c = bit_in-remove c.args.words.now c.args.k c.requires (search rules)
