use Rattle.live_pages.specs.Posting.{AreLocked}
use Rattle.live_pages.proofs.telling.lock_set.Given as goal

abbrev pub invariant-cores : goal.invariant-cores
invariant-cores g l = AreLocked l.core l.set l.index l.places.items
