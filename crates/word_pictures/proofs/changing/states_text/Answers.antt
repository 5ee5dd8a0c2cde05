use Rattle.word_pictures.proofs.ChangingLemmas.{states_said}
use Rattle.word_pictures.proofs.changing.states_text.Goals as goal

pub returns-in-Some-clause-ok : goal.returns-in-Some-clause-ok
returns-in-Some-clause-ok c =
    states_said c.args.shows c.args.trace.now _ c.in-Ok.recorder c.in-Ok-record.recorder c.in-Ok.ensures c.in-Ok-record.ensures.ends
    c.in-Some.ensures.whole c.in-Some.ensures.says
