use Rattle.std.proofs.Common.{rules, ap, refl, ◌∙◌, subst}
use Rattle.vm_base.specs.Plain.{nothing_mapped}
use Rattle.audit.specs.Auditor.{plain_of}
use Rattle.audit_text.specs.Reviewed.{IsReviewed}
use Rattle.audit_text.specs.Steps.{declared_of, heard_of, terms_of}
use Rattle.audit_text.proofs.AroundLemmas.{err_by, ok_by}
use Rattle.audit_text.proofs.FileLemmas.{same_files}
use Rattle.audit_text.proofs.ReviewLemmas.{before_first}
use Rattle.audit_text.proofs.auditing_all.review_calls.Goals as goal

pub returns-clause-ok : goal.returns-clause-ok
returns-clause-ok g c = ok_by c.review_heard-reviewed.result (λ r p lines e.
    subst (λ x. IsReviewed x lines r.found.items r.calls r.lacking) c.in-Ok-new.ensures.terms (p lines (declared_of c.args.declaration)
    (before_first (terms_of c.in-Ok-new.hearing) lines _ (declared_of c.args.declaration) (heard_of c.in-Ok-new.hearing)
    (plain_of c.in-Ok-new.hearing.auditor) _ c.args.first c.args.number e (search rules) c.in-Ok-new.ensures.heard
    (c.in-Ok-new.ensures.plain ∙ ap nothing_mapped (same_files _)) refl))) c.review_heard-reviewed.ensures.ok

pub returns-clause-err : goal.returns-clause-err
returns-clause-err g c = err_by c.review_heard-reviewed.result (λ f p lines e. p lines (declared_of c.args.declaration)
    (before_first (terms_of c.in-Ok-new.hearing) lines _ (declared_of c.args.declaration) (heard_of c.in-Ok-new.hearing)
    (plain_of c.in-Ok-new.hearing.auditor) _ c.args.first c.args.number e (search rules) c.in-Ok-new.ensures.heard
    (c.in-Ok-new.ensures.plain ∙ ap nothing_mapped (same_files _)) refl)) c.review_heard-reviewed.ensures.err
