use Rattle.audit.specs.Auditor.{plain_of}
use Rattle.loose_orders.proofs.BehindLemmas.{fetch_behind}
use Rattle.loose_orders.proofs.behind.fetches.Goals as goal

pub returns-in-Some : goal.returns-in-Some
returns-in-Some g c = λ e. fetch_behind (plain_of c.args.auditor.now) c.args.call c.args.of c.args.addr c.in-Some._one c.args.kept.now c.requires
    c.in-Some.ensures.call c.in-Some.ensures.page c.in-Some.ensures.offset c.in-Some.ensures.kept c.in-Some.ensures.due
