use Rattle.std.proofs.Common.{◌≡◌, ◌≤◌, ◌-◌, map, length, take}
use Rattle.import_steps.specs.Taking.{use_of}
use Rattle.import_steps.proofs.taking.copy_files.Given as goal

abbrev pub invariant-files : goal.invariant-files
invariant-files l = record {
  within : l.at ≤ length l.files;
  same : map use_of l.copies.items ≡ take l.at (map use_of l.files);
}

abbrev pub decreases-files : goal.decreases-files
decreases-files l = length l.files - l.at
