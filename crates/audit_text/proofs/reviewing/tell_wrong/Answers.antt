use Rattle.std.proofs.Common.{ap, sym, subst, ◌∙◌}
use Rattle.vm_base.specs.Plain.{Plain}
use Rattle.audit.specs.Auditor.{plain_of}
use Rattle.audit_text.specs.Heard.{Heard, with_item}
use Rattle.audit_text.specs.Reviewed.{GoesOnBy}
use Rattle.audit_text.specs.Steps.{terms_of}
use Rattle.audit_text.proofs.reviewing.tell_wrong.Goals as goal

pub returns-clause-goes : goal.returns-clause-goes
returns-clause-goes g c = subst (λ (p : Plain). GoesOnBy (terms_of c.args.hearing.now) (plain_of c.args.hearing.now.auditor) c.args.item c.args.due p)
    (sym (ap plain_of c.note.ensures.same)) c.in-Ok-go_on_by.ensures.goes

pub returns-clause-heard : goal.returns-clause-heard
returns-clause-heard g c = c.note.ensures.heard ∙ ap (λ (h : Heard). with_item h c.args.certain c.args.item) c.go_on_by.ensures.heard
