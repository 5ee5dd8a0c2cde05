use Rattle.std.proofs.Common.{◌≡◌, ◌++◌, drop, map}
use Rattle.litmus_report.specs.Counts.{bytes_of, plain_text}
use Rattle.litmus_report.proofs.counting.plain_texts.Given as goal

-- those so far, and those that are left, are all
abbrev pub invariant-loop-outcome : goal.invariant-loop-outcome
invariant-loop-outcome g l = map bytes_of l.texts.items
    ++ map (plain_text l.named.calls.now l.named.addrs.now l.named.maps) (map g.T.HasOutcome.outcome (drop l.outcome-index l.outcomes))
    ≡ map (plain_text l.named.calls.now l.named.addrs.now l.named.maps) (map g.T.HasOutcome.outcome l.outcomes)
