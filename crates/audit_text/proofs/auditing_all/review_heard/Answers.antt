use Rattle.std.proofs.Common.{ℕ, ap, subst, sym, ◌∙◌}
use Rattle.trace_io.specs.Lines.{lines_of}
use Rattle.audit.specs.Auditor.{plain_of}
use Rattle.audit_text.specs.Heard.{lacking_by}
use Rattle.audit_text.specs.Reviewed.{IsReviewed}
use Rattle.audit_text.specs.Reviewing.{IsBefore}
use Rattle.audit_text.specs.declared.allowing.Terms.{Terms}
use Rattle.audit_text.specs.Steps.{heard_of, terms_of}
use Rattle.audit_text.proofs.auditing_all.review_heard.Goals as goal

pub returns-in-Ok-clause-ok : goal.returns-in-Ok-clause-ok
returns-in-Ok-clause-ok g c = λ lines d before.
    subst (λ (n : ℕ). IsReviewed (terms_of c.args.hearing.now) lines c.review_lines.new.found.items c.review_lines.new.hearing.judged n)
    (sym (c.lacking_told.ensures ∙ ap (λ (t : Terms). lacking_by t (heard_of c.review_lines.new.hearing)) c.in-Ok.ensures.terms))
    (c.in-Ok.ensures.ok lines d
    (subst (λ found. IsBefore (terms_of c.args.hearing.now) lines d (heard_of c.args.hearing.now) (plain_of c.args.hearing.now.auditor) found
    c.args.first c.args.number (lines_of c.args.rest.now)) (sym c.new-found.ensures.items) before))

pub returns-in-Err-clause-err : goal.returns-in-Err-clause-err
returns-in-Err-clause-err g c = λ lines d before. c.in-Err.ensures.err lines d
    (subst (λ found. IsBefore (terms_of c.args.hearing.now) lines d (heard_of c.args.hearing.now) (plain_of c.args.hearing.now.auditor) found
    c.args.first c.args.number (lines_of c.args.rest.now)) (sym c.new-found.ensures.items) before)
