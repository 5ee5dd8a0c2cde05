use Rattle.std.proofs.Common.{ap, sym, ◌∙◌, is_some}
use Rattle.audit.specs.Auditor.{plain_of}
use Rattle.audit_text.specs.Steps.{heard_of, terms_of}
use Rattle.audit_text.proofs.AroundLemmas.{ok_by}
use Rattle.audit_text.proofs.HeardLemmas.{answered_bad, answered_hears, answered_wants}
use Rattle.audit_text.proofs.hearing.Hearing.answer.Goals as goal

pub returns-then-is_some-clause-hears : goal.returns-then-is_some-clause-hears
returns-then-is_some-clause-hears g c =
    answered_bad (terms_of c.args.self.now) (heard_of c.args.self.now) (heard_of c.args.self.now) (plain_of c.args.self.now.auditor)
    (plain_of c.args.self.now.auditor) c.args.call (ap is_some (sym c.waits.ensures) ∙ sym c.is_some.ensures ∙ c.if-is_some.true)

pub returns-clause-hears : goal.returns-clause-hears
returns-clause-hears g c = ok_by c.judge.result (λ turn j.
    answered_hears (terms_of c.args.self.now) (heard_of c.args.self.now) (heard_of c.judge.new.self) (plain_of c.args.self.now.auditor)
    (plain_of c.judge.new.self.auditor) c.is_certain-certain.result c.args.call turn
    (ap is_some (sym c.waits.ensures) ∙ sym c.is_some.ensures ∙ c.if-is_some.false) c.is_certain-certain.ensures j) c.judge.ensures.judged

pub returns-clause-want : goal.returns-clause-want
returns-clause-want g c =
    answered_wants c.judge.result (terms_of c.args.self.now) (heard_of c.args.self.now) (plain_of c.args.self.now.auditor) c.args.call
    (ap is_some (sym c.waits.ensures) ∙ sym c.is_some.ensures ∙ c.if-is_some.false) c.judge.ensures.legal
