use Rattle.std.proofs.Common.{◌≡◌, ◌++◌, drop}
use Rattle.std.specs.List.{flat_map}
use Rattle.litmus_report.specs.Program.{file_row}
use Rattle.litmus_report.proofs.program.add_files.Given as goal

-- those so far, and those that are left, are all
abbrev pub invariant-loop-file : goal.invariant-loop-file
invariant-loop-file g l = l.out.items ++ flat_map file_row (drop l.file-index l.files) ≡ l.fn.out.items ++ flat_map file_row l.files
