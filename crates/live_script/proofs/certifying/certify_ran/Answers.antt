use Rattle.std.proofs.Common.{sym, ◌∙◌}
use Rattle.std.proofs.lemmas.Result.{IfErr-weaker, IfOk-weaker}
use Rattle.certifier.specs.declared.result.Certified.{Certified}
use Rattle.certifier.specs.declared.result.CertifyFault.{CertifyFault}
use Rattle.live_script.proofs.CertifyLemmas.{certified_run, failed_run}
use Rattle.live_script.proofs.NumberedLemmas.{no_ticket}
use Rattle.live_script.proofs.certifying.certify_ran.Goals as goal

pub returns-clause-ok : goal.returns-clause-ok
returns-clause-ok g c = IfOk-weaker c.certify.result _ _ (λ (done : Certified) h. certified_run _ _ _ _ _ c.in-Ok-setup.setup _ _ c.declaration-declaration.ensures
    c.in-Ok-setup.ensures.made done.calls h) c.certify.ensures.ok

pub returns-clause-err : goal.returns-clause-err
returns-clause-err g c = IfErr-weaker c.certify.result _ _ (λ (fault : CertifyFault) h. failed_run _ _ _ _ _ c.in-Ok-setup.setup _ _ c.declaration-declaration.ensures
    c.in-Ok-setup.ensures.made (sym c.fault.ensures ∙ c.in_default.is) c.in-Ok-setup.ensures.sound fault h) c.certify.ensures.err

pub returns-clause-numbered : goal.returns-clause-numbered
returns-clause-numbered g c =
    IfErr-weaker c.certify.result _ _ (λ (fault : CertifyFault) h. no_ticket _ _ _ c.in-Ok-setup.setup _ _ fault h) c.certify.ensures.err
