use Rattle.word_pictures.proofs.SayingLemmas.{first_said}
use Rattle.word_pictures.proofs.seeking.say_first.Goals as goal

pub returns-in-Ok-seek-clause-ok : goal.returns-in-Ok-seek-clause-ok
returns-in-Ok-seek-clause-ok c = first_said c.args.condition c.args.trace.now c.in-Ok.recorder c.in-Ok-seek.say c.in-Ok.ensures.ok c.in-Ok-seek.ensures
