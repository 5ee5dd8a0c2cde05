use Rattle.std.proofs.Common.{◌≡◌, ◌+◌, ◌≤◌, drop, map}
use Rattle.litmus_report.specs.Counts.{bytes_of}
use Rattle.litmus.specs.Counts.{often}
use Rattle.litmus.proofs.counts.often.Given as goal

-- those so far, and those that are left, are all
abbrev pub invariant-loop-other : goal.invariant-loop-other
invariant-loop-other l = record {
  most : l.count ≤ l.other-index;
  are : l.count + often (map bytes_of (drop l.other-index l.texts)) l.text ≡ often (map bytes_of l.texts) l.text;
}
