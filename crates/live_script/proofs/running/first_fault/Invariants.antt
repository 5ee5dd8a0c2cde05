use Rattle.std.proofs.Common.{◌≡◌, map, take}
use Rattle.std.specs.Prelude.{None}
use Rattle.live_script.specs.Runs.{first_fault}
use Rattle.live_script.proofs.running.first_fault.Given as goal

-- no lane so far stopped
abbrev pub invariant-lanes : goal.invariant-lanes
invariant-lanes g l = first_fault (map (λ lane. lane.fault) (take l.at l.fn.lanes)) ≡ None
