use Rattle.std.proofs.Common.{Err, refl}
use Rattle.trace_words.specs.declared.fault.TraceFault.TheVariants.{WriteFailed}
use Rattle.trace_io.proofs.LineLemmas.{reads_map}
use Rattle.word_pictures.proofs.PictureLemmas.{picture_kept, picture_lost, told_kept, told_lost}
use Rattle.word_pictures.specs.Picture.{pictured_text}
use Rattle.word_pictures.proofs.picturing.picture.Goals as goal

pub returns-in-Ok-clause-ends : goal.returns-in-Ok-clause-ends
returns-in-Ok-clause-ends g c = (
  c.draw_trace-drawn.result,
  c.tell_end.ensures.value,
  reads_map _ _ _ _ c.draw_trace-drawn.ensures.ends (λ xs ys k h.
      picture_kept c.args.drawing (pictured_text c.args.drawing xs) _ _ _ c.draw_trace-drawn.result h c.flush.ensures.bytes),
  told_kept c.draw_trace-drawn.result _ _ _ c.draw_trace-drawn.ensures.told c.in-Ok.ensures.ok refl c.in-Ok.ensures.out,
)

pub returns-in-Err-clause-ends : goal.returns-in-Err-clause-ends
returns-in-Err-clause-ends g c = (
  Err WriteFailed,
  c.tell_end-in-Err.ensures.value,
  reads_map _ _ _ _ c.draw_trace-drawn.ensures.ends (λ xs ys k h.
      picture_lost c.args.drawing (pictured_text c.args.drawing xs) _ _ _ c.draw_trace-drawn.result h c.flush.ensures.bytes),
  told_lost (Err WriteFailed) _ _ refl c.in-Err.ensures.err,
)
