use Rattle.core_steps.proofs.at_once.ChangeAtOnce.{alone_by}
use Rattle.core_steps.proofs.engine.Engine.source_of.Goals as goal

pub returns-in_ok-frame-in-Copies-clause-untold : goal.returns-in_ok-frame-in-Copies-clause-untold
returns-in_ok-frame-in-Copies-clause-untold g c =
    alone_by c.args.core c.args.info.now.cores c.without.result c.without.ensures (c.is_empty.ensures.0 c.if-not-is_empty.false)
