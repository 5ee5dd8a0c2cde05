use Rattle.std.proofs.Common.{rules}
use Rattle.audit.specs.Auditor.{plain_of}
use Rattle.orders.proofs.following.follow.Goals as goal

pub returns-clause-yes : goal.returns-clause-yes
returns-clause-yes g c = λ e. record {
  keeps_time = c.keeps_time.ensures.0 c.if-not-keeps_time.false;
  each_once = search rules;
  last = plain_of c.lead_all.new.auditor;
  lead = c.lead_all.ensures.yes e;
}
