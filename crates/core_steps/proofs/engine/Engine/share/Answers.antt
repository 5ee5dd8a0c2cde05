use Rattle.core_steps.specs.State.{world}
use Rattle.core_steps.proofs.rows.Framing.{counted_few, shown_here, shown_used}
use Rattle.core_steps.proofs.rows.Known.{frame_counted}
use Rattle.core_steps.proofs.engine.Engine.share.Goals as goal

pub inc-requires-clause-object : goal.inc-requires-clause-object
inc-requires-clause-object g c =
    frame_counted (world g.M.SlotRead.slots c.args.self.now) c.args.cached c.requires.at.well
    (shown_here (world g.M.SlotRead.slots c.args.self.now) _ c.args.cached c.requires.at.well c.requires.cached)

pub inc-requires-clause-used : goal.inc-requires-clause-used
inc-requires-clause-used g c = shown_used (world g.M.SlotRead.slots c.args.self.now) _ c.args.cached c.requires.at.well c.requires.cached

pub inc-requires-clause-few : goal.inc-requires-clause-few
inc-requires-clause-few g c = counted_few (world g.M.SlotRead.slots c.args.self.now) c.args.cached c.requires.at.well
