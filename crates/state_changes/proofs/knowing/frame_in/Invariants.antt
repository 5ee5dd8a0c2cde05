use Rattle.std.proofs.Common.{◌≡◌, length}
use Rattle.trace_text.specs.Words.{words_of}
use Rattle.state_changes.specs.Knowing.{frame_in}
use Rattle.state_changes.proofs.knowing.frame_in.Given as goal

abbrev pub invariant-words : goal.invariant-words
invariant-words l = frame_in (words_of l.rest) ≡ frame_in (words_of l.line)

abbrev pub decreases-words : goal.decreases-words
decreases-words l = length (words_of l.rest)
