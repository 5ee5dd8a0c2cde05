use Rattle.live_levels.specs.Histories.{Grew}
use Rattle.live_levels.proofs.inner.InnerLevel.gather.Given as goal

abbrev pub invariant-places : goal.invariant-places
invariant-places g l = Grew l.next l.at l.fn.slots.items l.slots.items
