use Rattle.std.proofs.Common.{◌≡◌, ◌++◌, length}
use Rattle.trace_text.specs.Words.{words_of}
use Rattle.draw_lives.specs.Histories.{words_text}
use Rattle.draw_lives.proofs.histories.put_words.Given as goal

abbrev pub invariant-words : goal.invariant-words
invariant-words l = l.out.items ++ words_text (words_of l.rest) ≡ l.initial.out.items ++ words_text (words_of l.bytes)

abbrev pub decreases-words : goal.decreases-words
decreases-words l = length (words_of l.rest)
