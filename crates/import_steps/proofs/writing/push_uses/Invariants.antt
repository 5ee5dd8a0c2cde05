use Rattle.std.proofs.Common.{◌≡◌, ◌≤◌, ◌-◌, ◌++◌, map, length, take}
use Rattle.import_steps.specs.Taking.{use_of}
use Rattle.import_steps.specs.Texts.{use_lines}
use Rattle.import_steps.proofs.writing.push_uses.Given as goal

abbrev pub invariant-files : goal.invariant-files
invariant-files l = record {
  within : l.at ≤ length l.files;
  written : l.all.items ≡ l.initial.all.items ++ use_lines 0 (take l.at (map use_of l.files));
}

abbrev pub decreases-files : goal.decreases-files
decreases-files l = length l.files - l.at
