use Rattle.std.proofs.Common.{inl, inr, refl}
use Rattle.std.proofs.KnownBytes.{Keeps-refl}
use Rattle.word_pictures.specs.Saying.{FailsBetween, SaysBetween, lacking_said, text_said}
use Rattle.word_pictures.proofs.PictureLemmas.{text_drawn}
use Rattle.word_pictures.proofs.between.draw_between.Goals as goal

pub returns-in-Ok-clause-ends : goal.returns-in-Ok-clause-ends
returns-in-Ok-clause-ends g c =
    text_drawn (SaysBetween c.args.pair c.args.trace.now) (FailsBetween c.args.pair c.args.trace.now) lacking_said text_said _ _ c.in-Ok.say c.write_said.result
    (inl (inr (inl refl))) c.in-Ok.ensures.ok c.write_said.ensures.ok c.write_said.ensures.err

pub returns-in-Err-clause-ends : goal.returns-in-Err-clause-ends
returns-in-Err-clause-ends g c = inl (c.in-Err.ensures.err, Keeps-refl _)
