use Rattle.std.proofs.Common.{◌≡◌, ◌≤◌, take}
use Rattle.std.specs.List.{count_by}
use Rattle.litmus.specs.Lacking.{is_other}
use Rattle.litmus.proofs.lacking.count_others.Given as goal

abbrev pub invariant-calls : goal.invariant-calls
invariant-calls l = record {
  few : l.count ≤ l.at;
  so_far : l.count ≡ count_by (is_other l.core l.page) (take l.at l.calls);
}
