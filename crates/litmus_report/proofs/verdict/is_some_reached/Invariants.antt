use Rattle.std.proofs.Common.{◌≡◌, drop, map}
use Rattle.std.specs.Prelude.{◌&&◌}
use Rattle.std.specs.List.{list_any}
use Rattle.litmus_report.specs.Verdicts.{condition_holds, is_so}
use Rattle.litmus_report.proofs.verdict.is_some_reached.Given as goal

-- it is not so of those so far
abbrev pub invariant-loop-outcome : goal.invariant-loop-outcome
invariant-loop-outcome g l = list_any (λ o. o.reached && is_so l.wanted (condition_holds l.named.calls.now l.named.addrs.now l.terms o))
    (map g.T.HasOutcome.outcome (drop l.outcome-index l.outcomes))
    ≡ list_any (λ o. o.reached && is_so l.wanted (condition_holds l.named.calls.now l.named.addrs.now l.terms o)) (map g.T.HasOutcome.outcome l.outcomes)
