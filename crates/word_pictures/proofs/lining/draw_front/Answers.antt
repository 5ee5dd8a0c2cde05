use Rattle.word_pictures.proofs.LiningLemmas.{lines_read}
use Rattle.word_pictures.proofs.lining.draw_front.Goals as goal

pub returns-in-Ok-clause-ends : goal.returns-in-Ok-clause-ends
returns-in-Ok-clause-ends g c =
    lines_read _ _ c.args.lines c.in-Ok.text.items (g.W.Sink.contents c.args.out.now) (g.W.Sink.contents c.draw_told.new.out) c.draw_told.result
    c.in-Ok.ensures.text c.draw_told.ensures.ends
