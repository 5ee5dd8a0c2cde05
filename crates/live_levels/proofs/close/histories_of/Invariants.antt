use Rattle.std.proofs.Common.{◌≡◌, map, take}
use Rattle.live_levels.specs.Histories.{history_of, past_of}
use Rattle.live_levels.proofs.close.histories_of.Given as goal

abbrev pub invariant-slots : goal.invariant-slots
invariant-slots g l = map past_of l.histories.items ≡ map history_of (take l.slot-index l.slots)
