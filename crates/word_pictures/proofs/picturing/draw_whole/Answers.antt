use Rattle.word_pictures.proofs.PictureLemmas.{picture_read}
use Rattle.word_pictures.proofs.picturing.draw_whole.Goals as goal

pub returns-in-Ok-clause-ends : goal.returns-in-Ok-clause-ends
returns-in-Ok-clause-ends g c =
    picture_read _ _ c.args.drawing c.in-Ok.text.items (g.W.Sink.contents c.args.out.now) (g.W.Sink.contents c.draw_told.new.out) c.draw_told.result
    c.in-Ok.ensures.text c.draw_told.ensures.ends
