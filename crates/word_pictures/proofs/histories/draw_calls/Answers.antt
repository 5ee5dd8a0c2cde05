use Rattle.std.proofs.Common.{inl, refl, subst, sym}
use Rattle.std.proofs.KnownBytes.{Keeps-refl}
use Rattle.word_pictures.specs.Changing.{as_it_is}
use Rattle.word_pictures.specs.Picture.{IsHistory, LacksMemory, ShowsText, lacking_calls}
use Rattle.word_pictures.specs.Saying.{text_said}
use Rattle.word_pictures.proofs.SayingLemmas.{history_drawn}
use Rattle.word_pictures.proofs.histories.draw_calls.Goals as goal

pub returns-in-Ok-clause-ends : goal.returns-in-Ok-clause-ends
returns-in-Ok-clause-ends g c =
    history_drawn c.args.text.now _ _ c.in-Ok.say c.write_said.result c.in-Ok.ensures.text c.in-Ok.ensures.lacking c.write_said.ensures.ok c.write_said.ensures.err

pub returns-in-Err-clause-ends : goal.returns-in-Err-clause-ends
returns-in-Err-clause-ends g c = inl (inl refl, Keeps-refl _)
