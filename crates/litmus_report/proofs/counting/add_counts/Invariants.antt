use Rattle.std.proofs.Common.{◌≡◌, ◌++◌, length, map}
use Rattle.std.specs.List.{flat_map}
use Rattle.trace_io.specs.Lines.{lines_of}
use Rattle.litmus_report.specs.Counts.{bytes_of, count_line}
use Rattle.litmus_report.proofs.counting.add_counts.Given as goal

-- those so far, and those that are left, are all
abbrev pub invariant-lines : goal.invariant-lines
invariant-lines g l = l.out.items ++ flat_map (count_line (map bytes_of l.texts)) (lines_of l.rest)
    ≡ l.fn.out.items ++ flat_map (count_line (map bytes_of l.texts)) (lines_of l.counts)

abbrev pub decreases-lines : goal.decreases-lines
decreases-lines g l = length l.rest
