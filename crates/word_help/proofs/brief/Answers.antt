use Rattle.std.proofs.Common.{◌∙◌, length, sym}
use Rattle.std.proofs.Math.Seq.{take-length}
use Rattle.word_help.specs.Help.{page_of}
use Rattle.word_help.proofs.brief.Goals as goal

pub returns-in-None : goal.returns-in-None
returns-in-None c = (length (page_of c.args.topic), c.page-text.ensures ∙ sym (take-length (page_of c.args.topic)))
