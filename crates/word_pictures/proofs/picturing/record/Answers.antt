use Rattle.word_pictures.proofs.PictureLemmas.{was_recorded}
use Rattle.word_pictures.proofs.picturing.record.Goals as goal

pub returns-clause-ends : goal.returns-clause-ends
returns-clause-ends g c = was_recorded _ c.args.watch c.args.limit c.args.trace.now c.record_shown.result c.record_shown.ensures.ends
