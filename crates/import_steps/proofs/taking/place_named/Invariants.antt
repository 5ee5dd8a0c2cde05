use Rattle.std.proofs.Common.{◌≡◌, ◌≤◌, ◌+◌, ◌-◌, length, drop, map}
use Rattle.import_steps.specs.Taking.{place_named, use_of}
use Rattle.import_steps.proofs.taking.place_named.Given as goal

abbrev pub invariant-files : goal.invariant-files
invariant-files l = record {
  within : l.at ≤ length l.files;
  same : l.at + place_named l.name (drop l.at (map use_of l.files)) ≡ place_named l.name (map use_of l.files);
}

abbrev pub decreases-files : goal.decreases-files
decreases-files l = length l.files - l.at
