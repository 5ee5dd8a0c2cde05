use Rattle.std.proofs.Common.{◌≡◌, ◌+◌, ◌*◌, ◌≤◌, ◌++◌, length}
use Rattle.trace_words.proofs.TextLemmas.{cores_below}
use Rattle.trace_words.proofs.outcome_text.push_cores.Given as goal

-- the members below the index stand in the text
abbrev pub invariant-cores : goal.invariant-cores
invariant-cores l = record {
  bytes : l.text.bytes ≡ l.initial.text.bytes ++ cores_below l.fn.cores l.index;
  short : length l.text.bytes ≤ 10 + 3 * l.index;
}
