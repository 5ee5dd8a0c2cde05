use Rattle.std.proofs.Common.{◌≡◌, map, drop}
use Rattle.live_tree.specs.Guards.{slot_of}
use Rattle.live_tree.specs.Shown.{slot_at}
use Rattle.live_tree.proofs.held.page.page_at.Given as goal

abbrev pub invariant-guards : goal.invariant-guards
invariant-guards g l = slot_at (map slot_of l.guard-items) l.page ≡ slot_at (map slot_of (drop l.guard-index l.guard-items)) l.page
