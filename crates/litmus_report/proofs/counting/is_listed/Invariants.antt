use Rattle.std.proofs.Common.{◌≡◌, drop, map}
use Rattle.litmus_report.specs.Counts.{bytes_of, is_listed}
use Rattle.litmus_report.proofs.counting.is_listed.Given as goal

-- it is none of those so far
abbrev pub invariant-loop-text : goal.invariant-loop-text
invariant-loop-text g l = is_listed (map bytes_of (drop l.text-index l.texts)) l.outcome ≡ is_listed (map bytes_of l.texts) l.outcome
