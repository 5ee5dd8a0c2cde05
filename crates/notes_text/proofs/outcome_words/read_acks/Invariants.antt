use Rattle.std.proofs.Common.{◌≡◌, ◌≤◌, length}
use Rattle.trace_text.specs.Words.{words_of}
use Rattle.notes_text.specs.Outcomes.{cores_from}
use Rattle.notes_text.proofs.outcome_words.read_acks.Given as goal

-- the cores so far, and those of the words that are left, are all
abbrev pub invariant-cores : goal.invariant-cores
invariant-cores l = record {
  same : cores_from 0 0 (words_of l.fn.words) ≡ cores_from l.least l.cores (words_of l.rest);
  few : l.least ≤ 64;
}

abbrev pub decreases-cores : goal.decreases-cores
decreases-cores l = length (words_of l.rest)
