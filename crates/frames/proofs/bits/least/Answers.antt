use Rattle.std.proofs.Common.{◌≤◌, length, arith}
use Rattle.frames.proofs.BitSets.{bit_in-all_zero}
use Rattle.frames.proofs.bits.least.Goals as goal

pub returns-clause-none : goal.returns-clause-none
returns-clause-none c =
    let past : length c.args.words.now ≤ c.words.at = c.words-test.false in
    bit_in-all_zero c.args.words.now (λ w lt. c.words.invariant w (omega (arith, past, lt)))
