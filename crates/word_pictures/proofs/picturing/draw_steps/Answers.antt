use Rattle.machine_model.specs.declared.setup.CallLimit.TheVariants.{Usual}
use Rattle.draw_records.specs.Looking.{recorded}
use Rattle.draw_records.specs.Recording.{nothing_recorded}
use Rattle.watched.specs.Watching.{makes}
use Rattle.word_pictures.specs.Picture.{lacking, picture_of}
use Rattle.word_pictures.proofs.PictureLemmas.{all_drawn, none_drawn}
use Rattle.word_pictures.proofs.picturing.draw_steps.Goals as goal

pub returns-in-Ok-record-clause-ends : goal.returns-in-Ok-record-clause-ends
returns-in-Ok-record-clause-ends g c =
    all_drawn (makes recorded) c.in-Ok.recorder (nothing_recorded c.args.steps.first c.args.steps.last) (lacking c.args.steps.first)
    (picture_of c.args.steps.first c.args.steps.last c.args.trace.now) Usual c.args.trace.now _ _
    c.in-Ok-record.recorder c.show_steps.result c.in-Ok.ensures c.in-Ok-record.ensures.ends c.show_steps.ensures.ok c.show_steps.ensures.err

pub returns-in-Err-clause-ends : goal.returns-in-Err-clause-ends
returns-in-Err-clause-ends g c =
    none_drawn (makes recorded) (nothing_recorded c.args.steps.first c.args.steps.last) (lacking c.args.steps.first)
    (picture_of c.args.steps.first c.args.steps.last c.args.trace.now) Usual c.args.trace.now _ c.in-Err.fault c.in-Err.ensures.ends
