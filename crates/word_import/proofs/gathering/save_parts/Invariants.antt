use Rattle.std.proofs.Common.{◌≤◌, ◌-◌, length, take}
use Rattle.word_import.specs.Gathered.{AreSaved}
use Rattle.word_import.proofs.gathering.save_parts.Given as goal

abbrev pub invariant-parts : goal.invariant-parts
invariant-parts g l = record {
  within : l.at ≤ length l.parts;
  saved : AreSaved (g.F.Files.saved l.files) l.folder (take l.at l.parts);
}

abbrev pub decreases-parts : goal.decreases-parts
decreases-parts g l = length l.parts - l.at
