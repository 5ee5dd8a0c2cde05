use Rattle.std.proofs.Common.{ℕ, List, Some, subst, ◌∙◌}
use Rattle.word_pictures.specs.Lining.{FailsUpTo, Lined, lacking_of, picture_drawn}
use Rattle.word_pictures.specs.Picture.{TextEnds}
use Rattle.word_pictures.proofs.lining.draw_told.Goals as goal

pub returns-in-Ok-clause-ends : goal.returns-in-Ok-clause-ends
returns-in-Ok-clause-ends g c =
    let old = g.W.Sink.contents c.args.out.now in
    let new = g.W.Sink.contents c.draw_lines.new.out in
    let lines = c.args.lines in
    subst (λ (i : List ℕ). TextEnds (Lined lines i) (FailsUpTo (Some lines.last) i) (lacking_of lines) picture_drawn old new c.draw_lines.result)
    (c.as_slice.ensures.value ∙ c.in-Ok.ensures.text) c.draw_lines.ensures.ends
