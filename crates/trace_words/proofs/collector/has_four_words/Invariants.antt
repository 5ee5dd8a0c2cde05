use Rattle.std.proofs.Common.{◌≡◌, ◌+◌, length}
use Rattle.trace_text.specs.Words.{words_of}
use Rattle.trace_words.proofs.collector.has_four_words.Given as goal

-- the words so far, and those that are left, are all
abbrev pub invariant-words : goal.invariant-words
invariant-words l = record {
  all : l._count + length (words_of l.rest) ≡ length (words_of l.fn.line);
}
