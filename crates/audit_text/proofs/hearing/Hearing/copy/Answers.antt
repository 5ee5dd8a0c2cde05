use Rattle.std.proofs.Common.{Ok, ap, refl, sym, subst}
use Rattle.std.proofs.lemmas.Result.{err_from_is_err_and}
use Rattle.vm_base.specs.Plain.{Plain}
use Rattle.audit.specs.Auditor.{plain_of}
use Rattle.audit.specs.Copying.{Copies}
use Rattle.audit_text.specs.Steps.{heard_of, terms_of}
use Rattle.audit_text.specs.declared.item.AuditItem.TheVariants.{Copy}
use Rattle.audit_text.proofs.HeardLemmas.{copied_hears, uncopied_hears}
use Rattle.audit_text.proofs.hearing.Hearing.copy.Goals as goal

pub returns-in_err-copied-clause-want : goal.returns-in_err-copied-clause-want
returns-in_err-copied-clause-want g c =
    let p = err_from_is_err_and c.from_residual.result c.from_residual.ensures.1 in
    rw p.1 (Copy c.args.page, refl, c.in_err-copied.ensures.due)

pub returns-then-not-copied-clause-hears : goal.returns-then-not-copied-clause-hears
returns-then-not-copied-clause-hears g c =
    uncopied_hears (terms_of c.args.self.now) (heard_of c.args.self.now) (heard_of c.args.self.now) (plain_of c.args.self.now.auditor)
    (plain_of c.copy.new.self) c.is_certain-sure.result c.args.page c.is_certain-sure.ensures refl
    (c.in_ok-copied.ensures.same (ap Ok c.if-not-copied.true)) (c.in_ok-copied.ensures.no (ap Ok c.if-not-copied.true))

pub returns-clause-hears : goal.returns-clause-hears
returns-clause-hears g c =
    copied_hears (terms_of c.args.self.now) (heard_of c.args.self.now) (heard_of c.note_copy.new.self) (plain_of c.args.self.now.auditor)
    (plain_of c.note_copy.new.self.auditor) c.is_certain-sure.result c.args.page c.is_certain-sure.ensures c.note_copy.ensures.heard
    (subst (λ (p : Plain). Copies (plain_of c.args.self.now.auditor) c.args.page p) (sym (ap plain_of c.note_copy.ensures.same))
    (c.in_ok-copied.ensures.yes (ap Ok c.if-not-copied.false)))
