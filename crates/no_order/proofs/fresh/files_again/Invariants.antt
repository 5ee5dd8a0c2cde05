use Rattle.std.proofs.Common.{◌≡◌, length, map, take}
use Rattle.no_order.proofs.FileLemmas.{file_of}
use Rattle.no_order.proofs.fresh.files_again.Given as goal

-- so many are there once more
abbrev pub invariant-files : goal.invariant-files
invariant-files g l = record {
  count : length l.again.items ≡ l.at;
  same : map file_of l.again.items ≡ map file_of (take l.at l.files);
}
