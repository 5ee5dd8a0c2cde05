use Rattle.std.proofs.Common.{refl, subst}
use Rattle.audit.specs.Auditor.{plain_of}
use Rattle.audit_text.specs.Steps.{Hears, heard_of, terms_of}
use Rattle.audit_text.proofs.judging.turn.Goals as goal

pub returns-in-Ok-Legal-clause-turns : goal.returns-in-Ok-Legal-clause-turns
returns-in-Ok-Legal-clause-turns g c =
    subst (λ x. Hears (terms_of c.args.hearing.now) (heard_of c.args.hearing.now) (plain_of c.args.hearing.now.auditor) c.args.said x
    (heard_of c.hear.new.self) (plain_of c.hear.new.self.auditor)) c.in-Ok-Legal.field-0-is c.in-Ok-Legal.ensures.hears

pub returns-in-Ok-Bad-clause-turns : goal.returns-in-Ok-Bad-clause-turns
returns-in-Ok-Bad-clause-turns g c = (
  refl,
  subst (λ x. Hears (terms_of c.args.hearing.now) (heard_of c.args.hearing.now) (plain_of c.args.hearing.now.auditor) c.args.said x
      (heard_of c.hear.new.self) (plain_of c.hear.new.self.auditor)) c.in-Ok-Bad.field-0-is c.in-Ok-Bad.ensures.hears,
)
