use Rattle.std.proofs.Common.{◌≡◌, ◌<◌, ◌≤◌, ◌-◌, ◌^◌, Some, take}
use Rattle.trace_text.specs.Number.{value_from}
use Rattle.trace_text.proofs.number.front_value.Given as goal

-- the digits so far have this value, which is below the power that has as many digits
abbrev pub invariant-loop-count : goal.invariant-loop-count
invariant-loop-count l = record {
  within : l.count ≤ l.most;
  fits : l.number < 16 ^ l.count;
  same : value_from l.base 0 (take l.count l.bytes) ≡ Some l.number;
}

abbrev pub decreases-loop-count : goal.decreases-loop-count
decreases-loop-count l = l.most - l.count
