use Rattle.std.proofs.Common.{◌≡◌, drop, map}
use Rattle.litmus_report.specs.Counts.{bytes_of}
use Rattle.litmus.specs.Counts.{is_among}
use Rattle.litmus.proofs.counts.is_among.Given as goal

-- it is none of those so far
abbrev pub invariant-loop-other : goal.invariant-loop-other
invariant-loop-other l = is_among (map bytes_of (drop l.other-index l.texts)) l.text ≡ is_among (map bytes_of l.texts) l.text
