use Rattle.std.proofs.Common.{◌∙◌}
use Rattle.word_pictures.proofs.SayingLemmas.{seeks_said}
use Rattle.word_pictures.proofs.seeking.seek.Goals as goal

pub returns : goal.returns
returns c =
    seeks_said c.args.condition c.args.trace.now c.as_bytes.result.now c.args.recorder.now c.in_ok-sought.sought c.sought_said.result
    (c.as_bytes.ensures.value ∙ c.words_for.ensures) c.in_ok-sought.ensures c.sought_said.ensures
