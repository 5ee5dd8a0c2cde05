use Rattle.std.proofs.Common.{◌≡◌, ◌≤◌, map, take}
use Rattle.litmus_report.specs.Verdicts.{condition_holds, count_so, is_so}
use Rattle.litmus_report.proofs.verdict.count_so.Given as goal

-- of so many of those so far it is so
abbrev pub invariant-loop-outcome : goal.invariant-loop-outcome
invariant-loop-outcome g l = record {
  few : l.count ≤ l.outcome-index;
  counts : l.count ≡ count_so (λ o. is_so l.wanted (condition_holds l.named.calls.now l.named.addrs.now l.terms o))
      (map g.T.HasOutcome.outcome (take l.outcome-index l.outcomes));
}
