use Rattle.std.proofs.Common.{arith, sym}
use Rattle.std.proofs.lemmas.Bool.Decides.{nat_tests}
use Rattle.trace_text.proofs.WordLemmas.{word_none, word_some}
use Rattle.trace_text.proofs.words.next_word.Goals as goal

pub returns-then-is_empty : goal.returns-then-is_empty
returns-then-is_empty c =
    sym (word_none _ _ _ c.space_count.ensures.within c.space_count.ensures.before c.split_at.ensures.back (grind (arith, nat_tests)))

pub returns : goal.returns
returns c =
    let given = c.word_length.ensures in
    rw (c.split_at-2.ensures.front, c.split_at-2.ensures.back)
    (sym (word_some _ _ _ _ c.space_count.ensures.within c.space_count.ensures.before c.space_count.ensures.stops
    c.split_at.ensures.back (grind (arith, nat_tests)) given.within given.before given.stops))
