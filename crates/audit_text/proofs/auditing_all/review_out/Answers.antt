use Rattle.std.proofs.Common.{refl, sym, subst, ◌∙◌}
use Rattle.trace_io.specs.Lines.{lines_of}
use Rattle.trace_io.proofs.IoLemmas.{keeps_same}
use Rattle.audit_text.specs.Reviewed.{IsReviewed}
use Rattle.audit_text.proofs.ReviewEnds.{breaks_review, review_fails_so, reviews_all}
use Rattle.audit_text.proofs.auditing_all.review_out.Goals as goal

pub returns-in_default-clause-ends : goal.returns-in_default-clause-ends
returns-in_default-clause-ends g c = (tt, keeps_same (g.W.Sink.contents c.args.writer.now))

pub returns-in-Err-clause-ends : goal.returns-in-Err-clause-ends
returns-in-Err-clause-ends g c =
    review_fails_so c.args.terms c.args.text.now (g.W.Sink.contents c.args.writer.now) c.in-Err.fault c.in-Err.ensures.err

pub returns-in_default-told_text-clause-ends : goal.returns-in_default-told_text-clause-ends
returns-in_default-told_text-clause-ends g c = (tt, keeps_same (g.W.Sink.contents c.args.writer.now))

pub returns-in-Ok-write_out-clause-ends : goal.returns-in-Ok-write_out-clause-ends
returns-in-Ok-write_out-clause-ends g c =
    let review = c.in-Ok-review_text.review in
    reviews_all c.args.terms c.args.text.now c.as_slice.result.now (g.W.Sink.contents c.args.writer.now) (g.W.Sink.contents c.write_out.new.writer)
    c.as_slice-found.result.now review.calls review.lacking c.first_found.result
    (subst (λ f. IsReviewed c.args.terms (lines_of c.args.text.now) f review.calls review.lacking) (sym c.as_slice-found.ensures.value)
    c.in-Ok-review_text.ensures.ok)
    (c.as_slice.ensures.value ∙ c.in-Ok-told_text.ensures) c.first_found.ensures c.in-Ok-write_out.ensures.ok

pub returns-clause-ends : goal.returns-clause-ends
returns-clause-ends g c =
    let review = c.in-Ok-review_text.review in
    breaks_review c.args.terms c.args.text.now c.as_slice.result.now (g.W.Sink.contents c.args.writer.now) (g.W.Sink.contents c.write_out.new.writer)
    c.as_slice-found.result.now review.calls review.lacking _ refl
    (subst (λ f. IsReviewed c.args.terms (lines_of c.args.text.now) f review.calls review.lacking) (sym c.as_slice-found.ensures.value)
    c.in-Ok-review_text.ensures.ok)
    (c.as_slice.ensures.value ∙ c.in-Ok-told_text.ensures) c.in-Err-write_out.ensures.front
