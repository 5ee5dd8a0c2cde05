use Rattle.std.proofs.Common.{◌≡◌, ◌++◌, [], drop, map, take}
use Rattle.litmus_report.specs.Counts.{bytes_of}
use Rattle.litmus.specs.Counts.{lines_behind}
use Rattle.litmus.proofs.counts.counts_of.Given as goal

-- the counts so far, and those of the texts that are left, are all
abbrev pub invariant-texts : goal.invariant-texts
invariant-texts l = l.out.items ++ lines_behind (map bytes_of (take l.at l.texts)) (map bytes_of (drop l.at l.texts))
    ≡ lines_behind [] (map bytes_of l.texts)
