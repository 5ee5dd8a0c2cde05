use Rattle.std.proofs.Common.{sym, ◌∙◌}
use Rattle.audit.specs.Auditor.{plain_of}
use Rattle.audit_text.specs.Steps.{heard_of, terms_of}
use Rattle.audit_text.proofs.HeardLemmas.{ended_wants}
use Rattle.audit_text.proofs.hearing.Hearing.end.Goals as goal

pub returns-clause-want : goal.returns-clause-want
returns-clause-want g c =
    ended_wants _ (terms_of c.args.self.now) (heard_of c.args.self.now) (plain_of c.args.self.now.auditor) c.args.core c.args.reply
    c.in-Some.request (sym c.waits.ensures ∙ c.in-Some.is) c.judge.ensures.legal
