use Rattle.live_pages.proofs.Acking.{one_acks}
use Rattle.live_pages.proofs.telling.take_of.Goals as goal

pub returns-clause-acked : goal.returns-clause-acked
returns-clause-acked g c =
    one_acks c.args.set c.args.target c.in_ok-told.told.core c.args.acked c.with.result c.in_ok-told.ensures.told c.with.ensures.set c.with.ensures.range
