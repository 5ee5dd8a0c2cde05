use Rattle.std.proofs.Common.{[]}
use Rattle.word_import.proofs.replying.hear_log.Goals as goal

pub returns : goal.returns
returns c = c.in_ok-hear_text.ensures [] c.new-log.ensures
