use Rattle.std.proofs.Common.{ap, subst, is_some, ◌∙◌}
use Rattle.audit.specs.Auditor.{plain_of}
use Rattle.audit_text.specs.Steps.{Passes, heard_of, terms_of}
use Rattle.audit_text.proofs.HeardLemmas.{passes_hears, still_hears}
use Rattle.audit_text.proofs.hearing.Hearing.hear.Goals as goal

pub returns-in-StillWaits-clause-hears : goal.returns-in-StillWaits-clause-hears
returns-in-StillWaits-clause-hears g c = rw c.in-StillWaits.is
    (still_hears (terms_of c.args.self.now) (heard_of c.args.self.now) (heard_of c.pass.new.self) (plain_of c.args.self.now.auditor)
    (plain_of c.pass.new.self.auditor) c.in-StillWaits.core c.pass.result (ap plain_of c.pass.ensures.same)
    (subst (λ b. Passes b (heard_of c.args.self.now) c.pass.result (heard_of c.pass.new.self))
    (c.is_some-may.ensures ∙ ap is_some c.waits.ensures) c.pass.ensures.passes))

pub returns-in-Passes-clause-hears : goal.returns-in-Passes-clause-hears
returns-in-Passes-clause-hears g c = rw c.in-Passes.is
    (passes_hears (terms_of c.args.self.now) (heard_of c.args.self.now) (heard_of c.pass-in-Passes.new.self) (plain_of c.args.self.now.auditor)
    (plain_of c.pass-in-Passes.new.self.auditor) c.pass-in-Passes.result (ap plain_of c.pass-in-Passes.ensures.same)
    c.pass-in-Passes.ensures.passes)
