use Rattle.std.proofs.Common.{ℕ, List, subst, ◌∙◌}
use Rattle.word_pictures.specs.Picture.{PictureEnds}
use Rattle.word_pictures.proofs.PictureLemmas.{picture_wanting}
use Rattle.word_pictures.proofs.picturing.draw_told.Goals as goal

pub returns-in-Ok-clause-ends : goal.returns-in-Ok-clause-ends
returns-in-Ok-clause-ends g c =
    let old = g.W.Sink.contents c.args.out.now in
    let new = g.W.Sink.contents c.draw_text.new.out in
    subst (λ (i : List ℕ). PictureEnds c.args.drawing i old new c.draw_text.result)
    (c.as_slice.ensures.value ∙ c.in-Ok.ensures) c.draw_text.ensures.ends

pub returns-in-Err-clause-ends : goal.returns-in-Err-clause-ends
returns-in-Err-clause-ends g c = picture_wanting c.args.drawing _ _
