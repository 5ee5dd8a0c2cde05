use Rattle.std.proofs.Common.{◌≡◌, true}
use Rattle.no_order.proofs.placing.is_whole.Goals as goal

pub returns-clause-time : goal.returns-clause-time
returns-clause-time g c = λ e. let kept : c.keeps_time.result ≡ true = cc in c.keeps_time.ensures.0 kept
