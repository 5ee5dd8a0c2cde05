use Rattle.std.proofs.Common.{◌≡◌, length}
use Rattle.trace_text.specs.Words.{words_of}
use Rattle.state_changes.specs.Knowing.{words_name}
use Rattle.state_changes.proofs.knowing.names.Given as goal

abbrev pub invariant-words : goal.invariant-words
invariant-words l = words_name l.addr (words_of l.rest) ≡ words_name l.addr (words_of l.line)

abbrev pub decreases-words : goal.decreases-words
decreases-words l = length (words_of l.rest)
