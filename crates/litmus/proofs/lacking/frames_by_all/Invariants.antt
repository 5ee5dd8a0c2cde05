use Rattle.std.proofs.Common.{◌≡◌, ◌-◌, ◌^◌, min, take}
use Rattle.std.specs.List.{sum_by}
use Rattle.litmus.specs.Lacking.{taken_by}
use Rattle.litmus.proofs.lacking.frames_by_all.Given as goal

abbrev pub invariant-calls : goal.invariant-calls
invariant-calls l = l.count ≡ min (sum_by (taken_by l.calls) (take l.at l.calls)) (2 ^ 64 - 1)
