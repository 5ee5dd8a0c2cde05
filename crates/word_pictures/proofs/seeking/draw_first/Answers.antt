use Rattle.std.proofs.Common.{inl, inr, refl}
use Rattle.std.proofs.KnownBytes.{Keeps-refl}
use Rattle.machine_model.specs.declared.setup.CallLimit.TheVariants.{Usual}
use Rattle.word_pictures.specs.Picture.{Fails}
use Rattle.word_pictures.specs.Saying.{SaysFirst, lacking_said, text_said}
use Rattle.word_pictures.proofs.PictureLemmas.{text_drawn}
use Rattle.word_pictures.proofs.seeking.draw_first.Goals as goal

pub returns-in-Ok-clause-ends : goal.returns-in-Ok-clause-ends
returns-in-Ok-clause-ends g c =
    text_drawn (SaysFirst c.args.condition c.args.trace.now) (Fails Usual c.args.trace.now) lacking_said text_said _ _ c.in-Ok.say c.write_said.result
    (inr (inl refl)) c.in-Ok.ensures.ok c.write_said.ensures.ok c.write_said.ensures.err

pub returns-in-Err-clause-ends : goal.returns-in-Err-clause-ends
returns-in-Err-clause-ends g c = inl (c.in-Err.ensures.err, Keeps-refl _)
