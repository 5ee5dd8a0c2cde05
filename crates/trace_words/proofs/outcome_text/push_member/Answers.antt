use Rattle.std.proofs.Common.{arith}
use Rattle.trace_words.proofs.TextLemmas.{short_core}
use Rattle.trace_words.proofs.outcome_text.push_member.Goals as goal

pub push_str-requires-then-contains : goal.push_str-requires-then-contains
push_str-requires-then-contains c =
    let short = short_core _ _ _ _ _ c.as_str.ensures.value c.number_text.ensures c.from.ensures c.index.ensures.value c.index.ensures.in_range in
    (omega arith, omega (arith, short, c.push_str.ensures.len, c.requires))

pub returns-then-contains-clause-short : goal.returns-then-contains-clause-short
returns-then-contains-clause-short c =
    let short = short_core _ _ _ _ _ c.as_str.ensures.value c.number_text.ensures c.from.ensures c.index.ensures.value c.index.ensures.in_range in
    omega (arith, short, c.push_str.ensures.len, c.push_str-then-contains.ensures.len)
