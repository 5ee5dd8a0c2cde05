use Rattle.std.proofs.Common.{refl, subst}
use Rattle.audit.specs.Auditor.{plain_of}
use Rattle.audit_text.specs.Steps.{Hears, heard_of, terms_of}
use Rattle.audit_text.specs.Reviewed.{GoesOnBy}
use Rattle.std.specs.Prelude.{OnOk}
use Rattle.audit_text.proofs.ReviewLemmas.{legal_turn, wrong_turns}
use Rattle.audit_text.proofs.reviewing.turn.Goals as goal

pub returns-in-Ok-Legal-clause-turns : goal.returns-in-Ok-Legal-clause-turns
returns-in-Ok-Legal-clause-turns g c = legal_turn (terms_of c.args.hearing.now) (heard_of c.args.hearing.now) (heard_of c.hear.new.self)
    (plain_of c.args.hearing.now.auditor) (plain_of c.hear.new.self.auditor) c.args.said c.args.line _ _ refl
    (subst (λ x. Hears (terms_of c.args.hearing.now) (heard_of c.args.hearing.now) (plain_of c.args.hearing.now.auditor) c.args.said x
    (heard_of c.hear.new.self) (plain_of c.hear.new.self.auditor)) c.in-Ok-Legal.field-0-is c.in-Ok-Legal.ensures.hears)

pub returns-in-Ok-Illegal-clause-turns : goal.returns-in-Ok-Illegal-clause-turns
returns-in-Ok-Illegal-clause-turns g c =
    wrong_turns (terms_of c.args.hearing.now) (heard_of c.args.hearing.now) (heard_of c.hear.new.self) _
    (plain_of c.args.hearing.now.auditor) (plain_of c.hear.new.self.auditor) _ c.args.said c.args.line
    c.in-Ok-Illegal.item c.in-Ok-Illegal.due c.in-Ok-Illegal.certain _ _ c.tell_wrong.result
    (subst (λ x. Hears (terms_of c.args.hearing.now) (heard_of c.args.hearing.now) (plain_of c.args.hearing.now.auditor) c.args.said x
    (heard_of c.hear.new.self) (plain_of c.hear.new.self.auditor)) c.in-Ok-Illegal.field-0-is c.in-Ok-Illegal.ensures.hears)
    (subst (λ x. OnOk c.tell_wrong.result (GoesOnBy x (plain_of c.hear.new.self.auditor) c.in-Ok-Illegal.item c.in-Ok-Illegal.due
    (plain_of c.tell_wrong.new.hearing.auditor))) c.hear.ensures.terms c.tell_wrong.ensures.goes)
    c.tell_wrong.ensures.heard c.tell_wrong.ensures.found c.tell_wrong.ensures.err
