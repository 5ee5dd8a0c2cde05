use Rattle.std.proofs.Common.{◌≡◌, ℕ, ◌<◌, get_or}
use Rattle.frames.proofs.bits.least.Given as goal

abbrev pub invariant-words : goal.invariant-words
invariant-words l = (w : ℕ) → w < l.at → get_or l.words w 0 ≡ 0
