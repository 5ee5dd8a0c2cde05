use Rattle.std.proofs.Common.{inl, inr, refl}
use Rattle.std.proofs.KnownBytes.{Keeps-refl}
use Rattle.word_pictures.specs.Changing.{as_it_is, lacking_change}
use Rattle.word_pictures.proofs.PictureLemmas.{text_drawn}
use Rattle.word_pictures.proofs.changing.draw_changes.Goals as goal

pub returns-in-Ok-clause-ends : goal.returns-in-Ok-clause-ends
returns-in-Ok-clause-ends g c =
    text_drawn _ _ lacking_change as_it_is _ _ c.in-Ok.text.items c.write_text.result (inr (inl refl)) c.in-Ok.ensures.ok
    (rw c.as_slice.ensures.value at c.write_text.ensures.ok) (rw c.as_slice.ensures.value at c.write_text.ensures.err)

pub returns-in-Err-clause-ends : goal.returns-in-Err-clause-ends
returns-in-Err-clause-ends g c = inl (c.in-Err.ensures.err, Keeps-refl _)
