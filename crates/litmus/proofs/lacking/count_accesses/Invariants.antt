use Rattle.std.proofs.Common.{◌≡◌, ◌≤◌, take}
use Rattle.std.specs.List.{count_by}
use Rattle.litmus.specs.Lacking.{is_access_line}
use Rattle.litmus.proofs.lacking.count_accesses.Given as goal

abbrev pub invariant-lines : goal.invariant-lines
invariant-lines l = record {
  few : l.count ≤ l.at;
  so_far : l.count ≡ count_by is_access_line (take l.at l.opening);
}
