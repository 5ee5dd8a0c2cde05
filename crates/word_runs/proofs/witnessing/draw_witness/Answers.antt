use Rattle.std.proofs.Common.{ℕ, List, Err, inl, refl, subst, ◌∙◌}
use Rattle.word_pictures.specs.Picture.{PictureEnds}
use Rattle.word_pictures.proofs.PictureLemmas.{picture_kept, picture_lost}
use Rattle.word_runs.proofs.WitnessLemmas.{all_out}
use Rattle.trace_words.specs.declared.fault.TraceFault.TheVariants.{WriteFailed}
use Rattle.word_runs.proofs.witnessing.draw_witness.Goals as goal

pub returns-in-Ok-flush-clause-ends : goal.returns-in-Ok-flush-clause-ends
returns-in-Ok-flush-clause-ends g c =
    let old = g.W.Sink.contents c.args.out.now in
    let mid = g.W.Sink.contents c.draw_text-drawn.new.out in
    let ended = c.draw_text-drawn.result in
    let drawn = subst (λ (i : List ℕ). PictureEnds c.args.asked.drawing i old mid ended) c.as_slice.ensures.value c.draw_text-drawn.ensures.ends in
    inl (record {
      name = c.as_bytes.result.now;
      text = c.in-Ok.told.text.items;
      status = c.in-Ok.told.status;
      tells = c.in-Ok.ensures.ok;
      ended = ended;
      pictures = picture_kept c.args.asked.drawing c.in-Ok.told.text.items old mid _ ended drawn c.flush.ensures.bytes;
      write = λ e. c.in-Ok-flush.ensures.ok ∙ c.draw_text-drawn.ensures.write e;
      all = all_out ended _ _ _ _ c.draw_text-drawn.ensures.kept c.in-Ok-flush.ensures.ok c.in-Ok-flush.ensures.out;
      status_is = c.tell_drawn.ensures.value;
    })

pub returns-clause-ends : goal.returns-clause-ends
returns-clause-ends g c =
    let old = g.W.Sink.contents c.args.out.now in
    let mid = g.W.Sink.contents c.draw_text-drawn.new.out in
    let ended = c.draw_text-drawn.result in
    let drawn = subst (λ (i : List ℕ). PictureEnds c.args.asked.drawing i old mid ended) c.as_slice.ensures.value c.draw_text-drawn.ensures.ends in
    inl (record {
      name = c.as_bytes.result.now;
      text = c.in-Ok.told.text.items;
      status = c.in-Ok.told.status;
      tells = c.in-Ok.ensures.ok;
      ended = Err WriteFailed;
      pictures = picture_lost c.args.asked.drawing c.in-Ok.told.text.items old mid _ ended drawn c.flush.ensures.bytes;
      write = λ e. c.in-Err-flush.ensures.err;
      all = inl refl;
      status_is = c.tell_drawn-in-Err-flush.ensures.value;
    })
