use Rattle.word_pictures.proofs.SayingLemmas.{states_told, wants_memory}
use Rattle.word_pictures.proofs.StateLemmas.{state_unseen}
use Rattle.word_pictures.proofs.stating.text_at.Goals as goal

pub returns-in-Ok-see-clause-ok : goal.returns-in-Ok-see-clause-ok
returns-in-Ok-see-clause-ok c =
    states_told c.args.at c.args.trace.now c.front_of.result.now c.in-Ok.mirror c.in-Ok-see.sight c.text_of.result c.front_of.ensures c.in-Ok.ensures
    c.in-Ok-see.ensures.ends c.text_of.ensures.whole c.text_of.ensures.text

pub returns-in-Ok-see-clause-err : goal.returns-in-Ok-see-clause-err
returns-in-Ok-see-clause-err c = wants_memory c.args.at c.args.trace.now c.text_of.result c.text_of.ensures.err

pub returns-in-Err-clause-err : goal.returns-in-Err-clause-err
returns-in-Err-clause-err c = state_unseen c.args.at c.args.trace.now c.front_of.result.now _ c.front_of.ensures c.in-Err.ensures.ends
