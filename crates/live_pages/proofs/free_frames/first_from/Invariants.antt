use Rattle.std.proofs.Common.{◌≡◌, ℕ, ◌*◌, ◌<◌, ◌≤◌, false}
use Rattle.frames.specs.Bits.{bit_in}
use Rattle.live_pages.proofs.free_frames.first_from.Given as goal

abbrev pub invariant-words : goal.invariant-words
invariant-words l = (l.from ≤ l.at * 64) × ((k : ℕ) → l.from ≤ k → k < l.at * 64 → bit_in l.words k ≡ false)
