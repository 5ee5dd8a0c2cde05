use Rattle.std.proofs.Common.{◌≤◌, ◌-◌}
use Rattle.frames.specs.Files.{files_of}
use Rattle.core_steps.proofs.rows.Writable.{AreWritable}
use Rattle.core_steps.proofs.rows.decide.are_writable.Given as goal

-- the files so far are open for writing
abbrev pub invariant-files : goal.invariant-files
invariant-files g l = record {
  few : l.file ≤ 16;
  writable : AreWritable (files_of l.objects) l.file;
}

abbrev pub decreases-files : goal.decreases-files
decreases-files g l = 16 - l.file
