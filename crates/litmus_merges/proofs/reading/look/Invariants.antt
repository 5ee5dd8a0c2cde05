use Rattle.std.proofs.Common.{◌≡◌, take}
use Rattle.litmus_merges.specs.Seen.{shown}
use Rattle.litmus_merges.specs.Steps.{map_of}
use Rattle.litmus_merges.proofs.reading.look.Given as goal

-- what is seen after the steps so far
abbrev pub invariant-steps : goal.invariant-steps
invariant-steps g l = l.seen ≡ shown l.spot.offset ((map_of l.objects (take l.at l.steps)).entry l.spot.page)
