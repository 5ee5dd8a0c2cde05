use Rattle.core_steps.specs.State.{world}
use Rattle.core_steps.proofs.rows.Known.{freed_below, freed_busy}
use Rattle.core_steps.proofs.engine.Engine.review.Goals as goal

pub give-requires-clause-taken : goal.give-requires-clause-taken
give-requires-clause-taken g c = freed_busy (world g.M.SlotRead.slots c.args.self.now) c.args.core c.in-Freed.frame _ c.requires.well c.in-Freed.ensures.step

pub give-requires-clause-in_range : goal.give-requires-clause-in_range
give-requires-clause-in_range g c = freed_below (world g.M.SlotRead.slots c.args.self.now) c.args.core c.in-Freed.frame _ c.requires.well
    c.in-Freed.ensures.step
