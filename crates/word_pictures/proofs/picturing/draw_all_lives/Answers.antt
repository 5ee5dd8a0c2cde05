use Rattle.machine_model.specs.declared.setup.CallLimit.TheVariants.{Long}
use Rattle.draw_records.specs.Changes.{ChangesRecorded, nothing_changed}
use Rattle.word_pictures.specs.Picture.{lacking_none, lives_of}
use Rattle.word_pictures.proofs.PictureLemmas.{all_drawn, none_drawn}
use Rattle.word_pictures.proofs.picturing.draw_all_lives.Goals as goal

pub returns-in-Ok-clause-ends : goal.returns-in-Ok-clause-ends
returns-in-Ok-clause-ends g c =
    all_drawn ChangesRecorded c.new-recorder.result nothing_changed lacking_none (lives_of c.args.trace.now) Long c.args.trace.now _ _ c.in-Ok.recorder
    c.write_lives.result c.new-recorder.ensures c.in-Ok.ensures.ends c.write_lives.ensures.ok c.write_lives.ensures.err

pub returns-in-Err-clause-ends : goal.returns-in-Err-clause-ends
returns-in-Err-clause-ends g c =
    none_drawn ChangesRecorded nothing_changed lacking_none (lives_of c.args.trace.now) Long c.args.trace.now _ c.in-Err.fault c.in-Err.ensures.ends
