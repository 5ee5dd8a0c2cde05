use Rattle.std.proofs.Common.{ap, ◌∙◌}
use Rattle.trace_text.specs.Words.{words_of}
use Rattle.trace_text.proofs.WordLemmas.{words-skip}
use Rattle.trace_text.proofs.words.trimmed.Goals as goal

pub returns : goal.returns
returns c = ap words_of c.split_at.ensures.back ∙ words-skip _ _ c.space_count.ensures.within c.space_count.ensures.before
