use Rattle.std.proofs.Common.{rules, ap, ◌∙◌, subst}
use Rattle.vm_base.specs.Plain.{nothing_mapped}
use Rattle.audit_text.specs.Ends.{IsAtFault, IsVerdict}
use Rattle.audit_text.specs.Steps.{declared_of}
use Rattle.audit_text.proofs.AroundLemmas.{err_by, ok_by}
use Rattle.audit_text.proofs.EndLemmas.{call_begins}
use Rattle.audit_text.proofs.FileLemmas.{same_files}
use Rattle.audit_text.proofs.auditing.judge_calls.Goals as goal

pub returns-clause-ok : goal.returns-clause-ok
returns-clause-ok g c = ok_by c.judge_heard-judged.result (λ j p lines e.
    subst (λ x. IsVerdict x lines j.verdict j.around.items) c.in-Ok-new.ensures.terms (p lines (declared_of c.args.declaration)
    (call_begins _ lines _ (declared_of c.args.declaration) _ _ c.args.first c.args.number e (search rules)
    c.in-Ok-new.ensures.heard (c.in-Ok-new.ensures.plain ∙ ap nothing_mapped (same_files _))))) c.judge_heard-judged.ensures.ok

pub returns-clause-err : goal.returns-clause-err
returns-clause-err g c = err_by c.judge_heard-judged.result (λ f p lines e.
    subst (λ x. IsAtFault x lines f) c.in-Ok-new.ensures.terms (p lines (declared_of c.args.declaration)
    (call_begins _ lines _ (declared_of c.args.declaration) _ _ c.args.first c.args.number e (search rules)
    c.in-Ok-new.ensures.heard (c.in-Ok-new.ensures.plain ∙ ap nothing_mapped (same_files _))))) c.judge_heard-judged.ensures.err
