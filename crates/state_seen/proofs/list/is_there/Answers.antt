use Rattle.state_seen.proofs.Ordered.{there_by}
use Rattle.state_seen.proofs.list.is_there.Goals as goal

pub returns-then-place-entries : goal.returns-then-place-entries
returns-then-place-entries g c = there_by c.args.entries.now c.args.place c.args.page c.index-entries-place.result c.if-place-entries.true
