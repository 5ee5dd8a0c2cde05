use Rattle.std.proofs.Common.{◌≡◌, nat_lt}
use Rattle.frames.specs.Bits.{bit_in}
use Rattle.frames.proofs.free_set.FreeSet.all.Given as goal

abbrev pub invariant-numbers : goal.invariant-numbers
invariant-numbers g l = (bit_in l.set.words ≡ (λ j. nat_lt j l.k)) × (l.set.limit ≡ l.limit)
